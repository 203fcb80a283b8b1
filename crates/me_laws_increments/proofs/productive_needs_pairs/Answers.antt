use Rattle.me_laws_increments.proofs.Pairs.{productive_needs_pairs}
use Rattle.me_laws_increments.proofs.productive_needs_pairs.Goals as goal

pub returns : goal.returns
returns c = productive_needs_pairs
