use Rattle.me_laws_increments.proofs.Phases.{later_closes_are_new}
use Rattle.me_laws_increments.proofs.later_closes_are_new.Goals as goal

pub returns : goal.returns
returns c = later_closes_are_new
