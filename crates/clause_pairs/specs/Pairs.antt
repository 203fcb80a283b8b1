-- The pairs of a problem's clauses with the entries of a context.
use Rattle.std.specs.Prelude.{◌≡◌, ℕ, ◌<◌, ◌↔◌, List, [], length, slice_index_or}
use Rattle.std.specs.List.{Contains}
use Rattle.me_terms.specs.Values.{ProblemValue, EntryValue}
use Rattle.me_terms.specs.Context.{Context, StandsAt}
use Rattle.me_terms.specs.declared.atom.Literal.{Literal}
use Rattle.me_laws_increments.specs.Pairs.{IsPair}
use Rattle.clause_pairs.specs.declared.clause_place.ClausePlace.{ClausePlace}
use Rattle.clause_pairs.specs.Index.{IsIndex}
use Rattle.clause_pairs.specs.Lists.{IsRising, HasPlace, list_at}
use Rattle.clause_pairs.specs.Meetings.{LiteralAt, IsAgainst}
use Rattle.clause_pairs.specs.Values.{PairsValue}

-- At position k, which is not the pseudo-literal's, stands an entry of the opposite sign that unifies with the literal, hidden or not.
abbrev pub PairsAt : Context → Literal → ℕ → Type 0
PairsAt context l k = (0 < k) × ((e : EntryValue) × StandsAt context k e × IsPair e l)

-- The positions of a literal's pairs, rising, and no others.
pub record IsPairList (context : Context) (l : Literal) (ks : List ℕ) : Type 0 where
  pub rising : IsRising ks
  pub exact : (k : ℕ) → Contains ks k ↔ PairsAt context l k

-- There is a list for each place of the problem, that of its literal's pairs, a list of places for each entry, of those that it stands against, and the index is the problem's.
pub record ArePairs (problem : ProblemValue) (context : Context) (v : PairsValue) : Type 0 where
  pub each_clause : length v.lists ≡ length problem.clauses
  pub each_place : (q : ClausePlace) → HasPlace v.lists q ↔ ((l : Literal) × LiteralAt problem q l)
  pub list : (q : ClausePlace) (l : Literal) → LiteralAt problem q l → IsPairList context l (list_at v.lists q)
  pub each_entry : length v.entered ≡ length context
  pub places : (k : ℕ) (e : EntryValue) → 0 < k → StandsAt context k e → (q : ClausePlace) → Contains (slice_index_or v.entered k []) q ↔ IsAgainst problem e q
  pub index : IsIndex problem v.index
