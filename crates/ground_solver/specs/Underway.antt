-- A search that is underway: its branch, the nodes so far, and how much is left to do.
use Rattle.std.specs.Prelude.{◌≡◌, ℕ, ◌+◌, ◌≤◌, zero, suc, Bool, true, false, List, [], ◌∷◌, ◌++◌, reverse, length, Option, Some}
use Rattle.std.specs.List.{All, count_by}
use Rattle.std.specs.Option.{is_none}
use Rattle.ground_solver.specs.ClosingProofs.{Cases, Fixes}
use Rattle.ground_solver.specs.Numbered.{Clauses, AreWithin, IsFalseAt, ClosesAt, nodes, IsNodeWithin}
use Rattle.ground_solver.specs.Standings.{value_at}
use Rattle.ground_solver.specs.declared.signed.Step.{Step}
use Rattle.ground_solver.specs.declared.signed.Step.TheVariants.{Branch}
use Rattle.ground_solver.specs.declared.search.Fixed.{Fixed}
use Rattle.ground_solver.specs.declared.search.Fixed.TheVariants.{Tried, Forced, Refuted}
use Rattle.ground_solver.specs.declared.search.Search.{Search}

-- The values on a branch that is listed from its end to the root.
abbrev pub path_of : List Fixed → List (ℕ × Bool)
path_of [] = []
path_of (Tried a from ∷ rest) = (a, true) ∷ path_of rest
path_of (Forced a by ∷ rest) = (a, true) ∷ path_of rest
path_of (Refuted a ∷ rest) = (a, false) ∷ path_of rest

-- The nodes are those that come before the branch's end: at an atom that is false the tree in which it is
-- true is closed, and at one that is forced the clause has only false literals in the other case.
abbrev pub AreBefore : Clauses → List Fixed → List Step → Type 0
AreBefore clauses [] steps = steps ≡ []
AreBefore clauses (Tried a from ∷ rest) steps =
    (before : List Step) × AreBefore clauses rest before × (steps ≡ before ++ Branch a ∷ [])
AreBefore clauses (Forced a by ∷ rest) steps =
    (before : List Step) × AreBefore clauses rest before × (steps ≡ before ++ Branch a ∷ []) × IsFalseAt clauses ((a, false) ∷ path_of rest) by
AreBefore clauses (Refuted a ∷ rest) steps =
    (before : List Step) × (tree : Cases ℕ) × AreBefore clauses rest before × ClosesAt clauses ((a, true) ∷ path_of rest) tree × (steps ≡ (before ++ Branch a ∷ []) ++ nodes tree)

-- The branch's end is closed by the last nodes.
abbrev pub IsClosedHere : Clauses → List Fixed → List Step → Type 0
IsClosedHere clauses branch steps =
    (before : List Step) × (tree : Cases ℕ) × AreBefore clauses branch before × ClosesAt clauses (path_of branch) tree × (steps ≡ before ++ nodes tree)

-- Each value is fixed on the path.
abbrev pub AreFixed : List (Option Bool) → List (ℕ × Bool) → Type 0
AreFixed values path = (a : ℕ) (b : Bool) → value_at values a ≡ Some b → Fixes path a b

-- The search of n atoms and its branch agree.
pub record IsUnderway (clauses : Clauses) (n : ℕ) (s : Search) : Type 0 where
  pub size : length s.values.items ≡ n
  pub bounded : AreWithin clauses n
  pub fixed : AreFixed s.values.items (path_of (reverse s.trail.items))
  pub within : All (IsNodeWithin n) s.steps.items
  pub so_far : AreBefore clauses (reverse s.trail.items) s.steps.items

-- The same where the branch's end is closed.
pub record IsEnding (clauses : Clauses) (n : ℕ) (s : Search) : Type 0 where
  pub size : length s.values.items ≡ n
  pub bounded : AreWithin clauses n
  pub fixed : AreFixed s.values.items (path_of (reverse s.trail.items))
  pub within : All (IsNodeWithin n) s.steps.items
  pub closed : IsClosedHere clauses (reverse s.trail.items) s.steps.items

-- How many atoms have no value.
abbrev pub free : List (Option Bool) → ℕ
free values = count_by is_none values

-- How many nodes a tree has at most in which so many atoms are tried.
unfoldable pub most : ℕ → ℕ
most zero = 1
most (suc n) = most n + most n + 1

-- The same for all cases that a branch leaves to be tried, where n atoms have no value at its end.
unfoldable pub left_by : ℕ → List Fixed → ℕ
left_by n [] = 0
left_by n (Tried a from ∷ rest) = most n + left_by (suc n) rest
left_by n (Forced a by ∷ rest) = left_by (suc n) rest
left_by n (Refuted a ∷ rest) = left_by (suc n) rest

-- How much is left to do.
abbrev pub work : List (Option Bool) → List Fixed → ℕ
work values trail = most (free values) + left_by (free values) (reverse trail)

-- The search went on along its branch, or stands where it stood.
pub record IsOnward (clauses : Clauses) (s t : Search) : Type 0 where
  pub underway : (n : ℕ) → IsUnderway clauses n s → IsUnderway clauses n t
  pub less : work t.values.items t.trail.items ≤ work s.values.items s.trail.items
  pub same : free t.values.items + length t.trail.items ≡ free s.values.items + length s.trail.items
