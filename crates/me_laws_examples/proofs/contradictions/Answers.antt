use Rattle.me_laws_examples.proofs.ContradictionCases.{contradictions}
use Rattle.me_laws_examples.proofs.contradictions.Goals as goal

pub returns : goal.returns
returns c = contradictions
