-- Variables, groundness, depth and weight of terms.
use Rattle.std.specs.Prelude.{ℕ, ◌+◌, Bool, true, false, ◌&&◌, List, [], ◌∷◌, ◌++◌, max, eqb, ltb, if◌then◌else◌}
use Rattle.std.specs.List.{list_any}
use Rattle.me_terms.specs.Terms.{TermValue, Var, App, Arguments, Nil, Cons, AtomValue}
use Rattle.me_terms.specs.Substitutions.{apply_atom}

-- the variables in the order in which they stand, as often as they stand
abbrev mutual
  pub term_variables : TermValue → List ℕ
  term_variables (Var x) = x ∷ []
  term_variables (App f ts) = variables_of ts

  pub variables_of : Arguments → List ℕ
  variables_of Nil = []
  variables_of (Cons t ts) = term_variables t ++ variables_of ts

-- No variable stands in it.
abbrev mutual
  pub is_ground : TermValue → Bool
  is_ground (Var x) = false
  is_ground (App f ts) = are_ground ts

  pub are_ground : Arguments → Bool
  are_ground Nil = true
  are_ground (Cons t ts) = is_ground t && are_ground ts

-- how many symbols and variables stand in it
abbrev mutual
  pub weight : TermValue → ℕ
  weight (Var x) = 1
  weight (App f ts) = 1 + weights ts

  pub weights : Arguments → ℕ
  weights Nil = 0
  weights (Cons t ts) = weight t + weights ts

-- a variable and a constant have depth 1
abbrev mutual
  pub depth : TermValue → ℕ
  depth (Var x) = 1
  depth (App f ts) = 1 + depths ts

  pub depths : Arguments → ℕ
  depths Nil = 0
  depths (Cons t ts) = max (depth t) (depths ts)

-- Variables are numbered from n on, in the order in which they first stand.
abbrev pub is_numbered_from : ℕ → List ℕ → Bool
is_numbered_from n [] = true
is_numbered_from n (x ∷ xs) = if ltb x n then is_numbered_from n xs else (eqb x n && is_numbered_from (n + 1) xs)

abbrev pub is_canonical : AtomValue → Bool
is_canonical a = is_numbered_from 0 (variables_of a.args)

-- each once, in the order of first occurrence
abbrev pub first_ones : List ℕ → List ℕ → List ℕ
first_ones seen [] = seen
first_ones seen (x ∷ xs) = if list_any (eqb x) seen then first_ones seen xs else first_ones (seen ++ x ∷ []) xs

abbrev pub place_of : ℕ → List ℕ → ℕ
place_of x [] = 0
place_of x (y ∷ ys) = if eqb x y then 0 else 1 + place_of x ys

-- an atom with its variables numbered from 0 by first occurrence
abbrev pub canonical : AtomValue → AtomValue
canonical a = let names = first_ones [] (variables_of a.args) in apply_atom (λ x. Var (place_of x names)) a

-- how many arguments
abbrev pub count : Arguments → ℕ
count Nil = 0
count (Cons t ts) = 1 + count ts
