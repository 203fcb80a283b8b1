use Rattle.me_laws_examples.proofs.ParametricAssert.{asserts_parametric}
use Rattle.me_laws_examples.proofs.asserts_parametric.Goals as goal

pub returns : goal.returns
returns c = asserts_parametric
