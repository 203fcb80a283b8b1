use Rattle.me_laws_examples.proofs.HiddenCounted.{hidden_is_counted}
use Rattle.me_laws_examples.proofs.hidden_is_counted.Goals as goal

pub returns : goal.returns
returns c = hidden_is_counted
