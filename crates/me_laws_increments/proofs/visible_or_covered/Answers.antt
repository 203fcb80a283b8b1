use Rattle.me_laws_increments.proofs.Replacement.{kept_or_replaced}
use Rattle.me_laws_increments.proofs.visible_or_covered.Goals as goal

pub returns : goal.returns
returns c = kept_or_replaced
