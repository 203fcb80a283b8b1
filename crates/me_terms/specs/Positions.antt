-- What stands where: the clauses of a problem, and the entries that are set against a clause's literals.
use Rattle.std.specs.Prelude.{◌≡◌, ℕ, not, List, map, length, slice_get, Option, Some, None}
use Rattle.std.specs.List.{insert}
use Rattle.me_terms.specs.Values.{ProblemValue, ClauseValue, EntryValue}
use Rattle.me_terms.specs.Context.{Context, StandsAt, IsVisible}
use Rattle.me_terms.specs.declared.atom.Literal.{Literal}

-- The clause at place c of the problem, from 0.
abbrev pub ClauseAt : ProblemValue → ℕ → ClauseValue → Type 0
ClauseAt problem c clause = slice_get problem.clauses c ≡ Some clause

-- The positions at the places of a clause, in order: those of the tuple, with none at a skipped place.
abbrev pub positions_of : Option ℕ → List ℕ → List (Option ℕ)
positions_of None tuple = map Some tuple
positions_of (Some skip) tuple = insert (map Some tuple) skip None

-- The entry at a position, if there is one.
abbrev pub entry_at : Context → Option ℕ → Option EntryValue
entry_at context None = None
entry_at context (Some k) = slice_get context k

-- At place i stand the literal l, position k, and the entry e of that position.
pub record StandsAgainst (context : Context) (literals : List Literal) (positions : List (Option ℕ)) (i : ℕ) (l : Literal) (k : ℕ) (e : EntryValue) : Type 0 where
  pub literal : slice_get literals i ≡ Some l
  pub position : slice_get positions i ≡ Some (Some k)
  pub stands : StandsAt context k e

-- There are as many positions as literals, and each is that of a visible entry of the opposite sign.
pub record AreOpposite (context : Context) (literals : List Literal) (positions : List (Option ℕ)) : Type 0 where
  pub each_place : length positions ≡ length literals
  pub visible : (i k : ℕ) (l : Literal) → slice_get literals i ≡ Some l → slice_get positions i ≡ Some (Some k) → (e : EntryValue) × IsVisible context k e × (e.positive ≡ not l.positive)
