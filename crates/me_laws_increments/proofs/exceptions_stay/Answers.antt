use Rattle.me_laws_increments.proofs.Exceptions.{still_excepted}
use Rattle.me_laws_increments.proofs.exceptions_stay.Goals as goal

pub returns : goal.returns
returns c = still_excepted
