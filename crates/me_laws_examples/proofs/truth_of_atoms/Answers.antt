use Rattle.me_laws_examples.proofs.TruthOfAtoms.{truth_of_atoms}
use Rattle.me_laws_examples.proofs.truth_of_atoms.Goals as goal

pub returns : goal.returns
returns c = truth_of_atoms
