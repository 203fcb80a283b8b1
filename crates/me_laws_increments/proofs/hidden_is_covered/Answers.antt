use Rattle.me_laws_increments.proofs.Replacement.{replaced}
use Rattle.me_laws_increments.proofs.hidden_is_covered.Goals as goal

pub returns : goal.returns
returns c = replaced
