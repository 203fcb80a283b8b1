use Rattle.clause_pairs.proofs.GroundAtoms.{HasAtomsTo}
use Rattle.clause_pairs.proofs.index.ground_atoms.Given as goal

abbrev pub invariant-loop-clause : goal.invariant-loop-clause
invariant-loop-clause l = HasAtomsTo l.problem l.clause-index l.atoms.keys
