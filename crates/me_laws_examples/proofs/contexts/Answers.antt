use Rattle.me_laws_examples.proofs.ContextCases.{contexts}
use Rattle.me_laws_examples.proofs.contexts.Goals as goal

pub returns : goal.returns
returns c = contexts
