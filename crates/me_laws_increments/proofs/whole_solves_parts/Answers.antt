use Rattle.me_laws_increments.proofs.Prefixes.{whole_solves_parts}
use Rattle.me_laws_increments.proofs.whole_solves_parts.Goals as goal

pub returns : goal.returns
returns c = whole_solves_parts
