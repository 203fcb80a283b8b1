-- What a contract sees of the pairs of a problem's clauses with the entries of a context.
use Rattle.std.specs.Prelude.{ℕ, List, map}
use Rattle.std.specs.declared.vec.Vec.{Vec}
use Rattle.std.specs.declared.alloc.Global.{Global}
use Rattle.clause_pairs.specs.declared.clause_place.ClausePlace.{ClausePlace}
use Rattle.clause_pairs.specs.Index.{IndexValue}

-- For each clause and place the positions that stand against its literal, but for that of the pseudo-literal; for each position the places; and an index of the problem's literals.
pub record PairsValue : Type 0 where
  pub lists : List (List (List ℕ))
  pub entered : List (List ClausePlace)
  pub index : IndexValue

-- the numbers of each list
abbrev pub numbers_of : List (Vec ℕ Global) → List (List ℕ)
numbers_of lists = map (λ l. l.items) lists

-- the same of lists of lists
abbrev pub lists_of : List (Vec (Vec ℕ Global) Global) → List (List (List ℕ))
lists_of lists = map (λ l. numbers_of l.items) lists

-- the places of each list
abbrev pub places_of : List (Vec ClausePlace Global) → List (List ClausePlace)
places_of lists = map (λ l. l.items) lists
