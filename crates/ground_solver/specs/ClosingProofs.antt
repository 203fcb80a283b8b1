-- Proofs by cases that no choice of truth values satisfies clauses.
use Rattle.std.specs.Prelude.{◌≡◌, ℕ, Bool, true, false, not, ◌⊎◌, List, [], ◌∷◌, ◌++◌, Some, slice_get}
use Rattle.std.specs.List.{All}
use Rattle.me_terms.specs.Terms.{AtomValue}
use Rattle.me_terms.specs.declared.atom.Literal.{Literal}
use Rattle.ground_solver.specs.declared.decision.Split.{Split}
use Rattle.ground_solver.specs.declared.decision.Split.TheVariants.{Branch, Leaf}

-- A tree of cases: at a branch an atom is true or false, a leaf names a clause by its place.
pub data Cases (A : Type 0) : Type 0 where
  LeafAt : ℕ → Cases A
  BranchOn : A → Cases A → Cases A → Cases A

-- The value is fixed for the atom.
abbrev pub Fixes : {A : Type 0} → List (A × Bool) → A → Bool → Type 0
Fixes [] a b = ⊥
Fixes (p ∷ path) a b = ((p.0 ≡ a) × (p.1 ≡ b)) ⊎ Fixes path a b

-- The clause at that place has only false literals under the values that are fixed.
abbrev pub IsFalseOn : List (List Literal) → List (AtomValue × Bool) → ℕ → Type 0
IsFalseOn clauses path n =
    (clause : List Literal) × (slice_get clauses n ≡ Some clause) × All (λ l. Fixes path l.atom (not l.positive)) clause

-- At each leaf the clause has only false literals under the values that are fixed on the way to it.
abbrev pub Closes : List (List Literal) → List (AtomValue × Bool) → Cases AtomValue → Type 0
Closes clauses path (LeafAt n) = IsFalseOn clauses path n
Closes clauses path (BranchOn a t f) = Closes clauses ((a, true) ∷ path) t × Closes clauses ((a, false) ∷ path) f

-- The nodes of the tree: a branch, those of the tree in which its atom is true, and those of the other.
abbrev pub preorder : Cases AtomValue → List Split
preorder (LeafAt n) = Leaf n ∷ []
preorder (BranchOn a t f) = Branch a ∷ preorder t ++ preorder f

-- The nodes are those of a tree of cases that closes the clauses.
abbrev pub IsClosingProof : List (List Literal) → List Split → Type 0
IsClosingProof clauses proof = (tree : Cases AtomValue) × (preorder tree ≡ proof) × Closes clauses [] tree
