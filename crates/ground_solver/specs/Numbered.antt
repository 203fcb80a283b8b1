-- The same for clauses whose atoms are numbers.
use Rattle.std.specs.Prelude.{◌≡◌, ℕ, ◌<◌, Bool, true, false, not, List, [], ◌∷◌, ◌++◌, Some, slice_get}
use Rattle.std.specs.List.{All}
use Rattle.std.specs.declared.vec.Vec.{Vec}
use Rattle.std.specs.declared.alloc.Global.{Global}
use Rattle.ground_solver.specs.ClosingProofs.{Cases, LeafAt, BranchOn, Fixes}
use Rattle.ground_solver.specs.declared.signed.Signed.{Signed}
use Rattle.ground_solver.specs.declared.signed.Step.{Step}
use Rattle.ground_solver.specs.declared.signed.Step.TheVariants.{Branch, Leaf}

-- Clauses over numbers.
abbrev pub Clauses : Type 0
Clauses = List (Vec Signed Global)

-- There are so many atoms.
abbrev pub AreWithin : Clauses → ℕ → Type 0
AreWithin clauses n = All (λ clause. All (λ l. l.atom < n) clause.items) clauses

abbrev pub IsFalseAt : Clauses → List (ℕ × Bool) → ℕ → Type 0
IsFalseAt clauses path n =
    (clause : Vec Signed Global) × (slice_get clauses n ≡ Some clause) × All (λ l. Fixes path l.atom (not l.positive)) clause.items

abbrev pub ClosesAt : Clauses → List (ℕ × Bool) → Cases ℕ → Type 0
ClosesAt clauses path (LeafAt n) = IsFalseAt clauses path n
ClosesAt clauses path (BranchOn a t f) = ClosesAt clauses ((a, true) ∷ path) t × ClosesAt clauses ((a, false) ∷ path) f

abbrev pub nodes : Cases ℕ → List Step
nodes (LeafAt n) = Leaf n ∷ []
nodes (BranchOn a t f) = Branch a ∷ nodes t ++ nodes f

-- The nodes are those of a tree of cases that closes the clauses.
abbrev pub AreClosing : Clauses → List Step → Type 0
AreClosing clauses steps = (tree : Cases ℕ) × (nodes tree ≡ steps) × ClosesAt clauses [] tree

-- The node's atom, if it has one, is among so many.
abbrev pub IsNodeWithin : ℕ → Step → Type 0
IsNodeWithin n (Branch a) = a < n
IsNodeWithin n (Leaf c) = Unit {0}
