use Rattle.me_laws_increments.proofs.SmallContext.{small_context_example}
use Rattle.me_laws_increments.proofs.small_context_example.Goals as goal

pub returns : goal.returns
returns c = small_context_example
