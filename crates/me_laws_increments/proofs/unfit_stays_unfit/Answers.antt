use Rattle.me_laws_increments.proofs.Prefixes.{unfit_stays_unfit}
use Rattle.me_laws_increments.proofs.unfit_stays_unfit.Goals as goal

pub returns : goal.returns
returns c = unfit_stays_unfit
