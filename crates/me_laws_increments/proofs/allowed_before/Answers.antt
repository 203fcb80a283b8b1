use Rattle.me_laws_increments.proofs.Refusals.{allowed_before}
use Rattle.me_laws_increments.proofs.allowed_before.Goals as goal

pub returns : goal.returns
returns c = allowed_before
