use Rattle.me_laws_increments.proofs.Prefixes.{remaining_stays}
use Rattle.me_laws_increments.proofs.remaining_stays.Goals as goal

pub returns : goal.returns
returns c = remaining_stays
