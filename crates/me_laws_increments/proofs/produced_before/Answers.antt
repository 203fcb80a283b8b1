use Rattle.me_laws_increments.proofs.Exceptions.{produced_before}
use Rattle.me_laws_increments.proofs.produced_before.Goals as goal

pub returns : goal.returns
returns c = produced_before
