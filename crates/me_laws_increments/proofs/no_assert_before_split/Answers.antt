use Rattle.me_laws_increments.proofs.Phases.{no_assert_before_split}
use Rattle.me_laws_increments.proofs.no_assert_before_split.Goals as goal

pub returns : goal.returns
returns c = no_assert_before_split
