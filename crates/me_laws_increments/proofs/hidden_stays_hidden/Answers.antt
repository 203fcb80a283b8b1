use Rattle.me_laws_increments.proofs.Replacement.{hidden_later}
use Rattle.me_laws_increments.proofs.hidden_stays_hidden.Goals as goal

pub returns : goal.returns
returns c = hidden_later
