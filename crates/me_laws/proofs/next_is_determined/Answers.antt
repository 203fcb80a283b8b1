use Rattle.me_laws.proofs.Determined.{next_unique}
use Rattle.me_laws.proofs.next_is_determined.Goals as goal

pub returns : goal.returns
returns c = next_unique
