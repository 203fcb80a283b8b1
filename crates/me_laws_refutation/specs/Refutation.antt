-- What a closed tree shows.
use Rattle.std.specs.Prelude.{◌≤◌, List}
use Rattle.std.specs.List.{All}
use Rattle.me_terms.specs.Values.{ProblemValue, InstanceValue}
use Rattle.me_terms.specs.Validity.{IsValid}
use Rattle.me_terms.specs.GroundInstances.{IsGroundInstance}
use Rattle.me_terms.specs.Refuted.{IsRefuted}
use Rattle.me_terms.specs.Measures.{list_weight}
use Rattle.me_terms.specs.Grown.{start}
use Rattle.me_terms.specs.Outcome.{Closed, HasOutcome}
use Rattle.me_terms.specs.Answer.{Unsatisfiable, HasAnswer}
use Rattle.me_terms.specs.declared.bounds.Bounds.{Bounds}

-- The list of a closed tree: under every valuation some clause of it is false, and each instance of it is a ground instance of its clause.
pub record ClosedIsRefutedBy (problem : ProblemValue) (list : List InstanceValue) : Type 0 where
  pub refuted : IsRefuted list
  pub instances : All (λ i. IsGroundInstance problem i.clause i.literals) list

-- So it is of a valid problem, from the start of the bounds.
abbrev pub ClosedIsRefuted : Type 0
ClosedIsRefuted = (problem : ProblemValue) (bounds : Bounds) (list : List InstanceValue) → IsValid problem → HasOutcome problem bounds (start bounds.start) (Closed list) → ClosedIsRefutedBy problem list

-- The same of an answer, whose list is within the list bound.
abbrev pub UnsatisfiableIsRefuted : Type 0
UnsatisfiableIsRefuted = (problem : ProblemValue) (bounds : Bounds) (list : List InstanceValue) → IsValid problem → HasAnswer problem bounds (Unsatisfiable list) → ClosedIsRefutedBy problem list × (list_weight list ≤ bounds.list)
