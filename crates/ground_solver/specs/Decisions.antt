-- What a decision says of clauses.
use Rattle.std.specs.Prelude.{◌≡◌, ℕ, List, [], ◌∷◌, ⊤}
use Rattle.me_terms.specs.declared.atom.Literal.{Literal}
use Rattle.ground_solver.specs.Assignments.{IsModel}
use Rattle.ground_solver.specs.ClosingProofs.{IsClosingProof}
use Rattle.ground_solver.specs.declared.decision.Split.TheVariants.{Leaf}
use Rattle.ground_solver.specs.declared.decision.Decision.{Decision}
use Rattle.ground_solver.specs.declared.decision.Decision.TheVariants.{Model, Closed}

-- The true atoms are those of a model, or the proof closes the clauses.
abbrev pub IsDecided : List (List Literal) → Decision → Type 0
IsDecided clauses (Model trues) = IsModel clauses trues.items
IsDecided clauses (Closed proof) = IsClosingProof clauses proof.items

abbrev pub IsClosed : Decision → Type 0
IsClosed (Model trues) = ⊥
IsClosed (Closed proof) = ⊤

-- The proof has one leaf alone, for the clause at that place.
abbrev pub IsClosedBy : ℕ → Decision → Type 0
IsClosedBy at (Model trues) = ⊥
IsClosedBy at (Closed proof) = proof.items ≡ Leaf at ∷ []
