use Rattle.me_laws_increments.proofs.Pairs.{close_needs_pairs}
use Rattle.me_laws_increments.proofs.close_needs_pairs.Goals as goal

pub returns : goal.returns
returns c = close_needs_pairs
