use Rattle.me_laws_examples.proofs.RepeatedInstance.{repeat_is_dropped}
use Rattle.me_laws_examples.proofs.repeat_is_dropped.Goals as goal

pub returns : goal.returns
returns c = repeat_is_dropped
