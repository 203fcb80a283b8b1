use Rattle.me_laws_increments.proofs.Pairs.{assert_needs_pairs}
use Rattle.me_laws_increments.proofs.assert_needs_pairs.Goals as goal

pub returns : goal.returns
returns c = assert_needs_pairs
