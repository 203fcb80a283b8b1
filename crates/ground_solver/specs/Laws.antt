-- Laws of decisions.
use Rattle.std.specs.Prelude.{◌↔◌, List, map}
use Rattle.me_terms.specs.Refuted.{IsRefuted}
use Rattle.me_terms.specs.Values.{InstanceValue}
use Rattle.me_terms.specs.declared.atom.Literal.{Literal}
use Rattle.ground_solver.specs.Assignments.{IsUnsatisfiable}
use Rattle.ground_solver.specs.ClosingProofs.{IsClosingProof}
use Rattle.ground_solver.specs.declared.decision.Split.{Split}

-- Clauses that a proof closes are satisfied by no choice of truth values.
abbrev pub AClosingProofRefutes : Type 0
AClosingProofRefutes = (clauses : List (List Literal)) (proof : List Split) → IsClosingProof clauses proof → IsUnsatisfiable clauses

-- A list of instances is refuted exactly where no choice of truth values satisfies its clauses.
abbrev pub ListsOfInstancesAreClauses : Type 0
ListsOfInstancesAreClauses = (list : List InstanceValue) → IsUnsatisfiable (map (λ (i : InstanceValue). i.literals) list) ↔ IsRefuted list
