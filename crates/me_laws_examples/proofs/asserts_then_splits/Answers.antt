use Rattle.me_laws_examples.proofs.AssertThenSplit.{asserts_then_splits}
use Rattle.me_laws_examples.proofs.asserts_then_splits.Goals as goal

pub returns : goal.returns
returns c = asserts_then_splits
