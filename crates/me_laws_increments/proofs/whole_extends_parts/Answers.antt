use Rattle.me_laws_increments.proofs.Prefixes.{whole_extends_parts}
use Rattle.me_laws_increments.proofs.whole_extends_parts.Goals as goal

pub returns : goal.returns
returns c = whole_extends_parts
