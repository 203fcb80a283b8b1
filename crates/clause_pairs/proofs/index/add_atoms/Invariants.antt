use Rattle.clause_pairs.specs.Index.{AddsAtoms}
use Rattle.clause_pairs.proofs.GroundAtoms.{IsGroundAtomOfFirst}
use Rattle.clause_pairs.proofs.index.add_atoms.Given as goal

-- The atoms of the first literals are added.
abbrev pub invariant-loop-literal : goal.invariant-loop-literal
invariant-loop-literal l = AddsAtoms l.fn.atoms.keys l.atoms.keys (IsGroundAtomOfFirst l.literals l.literal-index)
