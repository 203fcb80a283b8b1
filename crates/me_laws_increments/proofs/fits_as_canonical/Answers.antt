use Rattle.me_laws_increments.proofs.FirstUnfit.{fits_as_canonical}
use Rattle.me_laws_increments.proofs.fits_as_canonical.Goals as goal

pub returns : goal.returns
returns c = fits_as_canonical
