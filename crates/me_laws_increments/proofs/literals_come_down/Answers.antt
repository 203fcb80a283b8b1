use Rattle.me_laws_increments.proofs.Prefixes.{literals_come_down}
use Rattle.me_laws_increments.proofs.literals_come_down.Goals as goal

pub returns : goal.returns
returns c = literals_come_down
