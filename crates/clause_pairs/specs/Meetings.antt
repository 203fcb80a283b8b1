-- Which places of a problem's clauses an entry stands against.
use Rattle.std.specs.Prelude.{◌≡◌, ℕ, ◌<◌, ◌⊎◌, ◌↔◌, List, slice_get, Some}
use Rattle.std.specs.List.{Contains, AllPairs}
use Rattle.me_terms.specs.Values.{ProblemValue, ClauseValue, EntryValue}
use Rattle.me_terms.specs.Positions.{ClauseAt}
use Rattle.me_terms.specs.declared.atom.Literal.{Literal}
use Rattle.me_laws_increments.specs.Pairs.{IsPair}
use Rattle.clause_pairs.specs.declared.clause_place.ClausePlace.{ClausePlace}

-- The literal l stands at the place of the problem.
abbrev pub LiteralAt : ProblemValue → ClausePlace → Literal → Type 0
LiteralAt problem q l = (clause : ClauseValue) × ClauseAt problem q.clause clause × (slice_get clause.literals q.place ≡ Some l)

-- A literal stands at the place.
abbrev pub HasLiteralAt : ProblemValue → ClausePlace → Type 0
HasLiteralAt problem q = (l : Literal) × LiteralAt problem q l

-- At the place stands a literal of the opposite sign that unifies with the entry.
abbrev pub IsAgainst : ProblemValue → EntryValue → ClausePlace → Type 0
IsAgainst problem e q = (l : Literal) × LiteralAt problem q l × IsPair e l

-- The place is one of these literals, which are those of clause c, and R holds of its literal.
abbrev pub OfClause : (Literal → Type 0) → List Literal → ℕ → ClausePlace → Type 0
OfClause R literals c q = (q.clause ≡ c) × ((l : Literal) × (slice_get literals q.place ≡ Some l) × R l)

-- The place is one of these literals, which are those of clause c, and the entry stands against its literal.
abbrev pub AgainstClause : EntryValue → List Literal → ℕ → ClausePlace → Type 0
AgainstClause e literals c = OfClause (λ l. IsPair e l) literals c

-- The place is of an earlier clause, or before the other in its clause.
abbrev pub ComesBefore : ClausePlace → ClausePlace → Type 0
ComesBefore p q = (p.clause < q.clause) ⊎ ((p.clause ≡ q.clause) × (p.place < q.place))

-- The places are those of the problem's literals of which R holds, in their order.
pub record ArePlacesOf (problem : ProblemValue) (R : Literal → Type 0) (places : List ClausePlace) : Type 0 where
  pub exact : (q : ClausePlace) → Contains places q ↔ ((l : Literal) × LiteralAt problem q l × R l)
  pub in_order : AllPairs ComesBefore places

-- The second list has the places of the first, those of which P holds, and no others.
abbrev pub AddsPlaces : List ClausePlace → List ClausePlace → (ClausePlace → Type 0) → Type 0
AddsPlaces before after P = (q : ClausePlace) → Contains after q ↔ (Contains before q ⊎ P q)

-- Where the first list is in order and of clauses before c, the second is in order.
abbrev pub KeepsOrder : ℕ → List ClausePlace → List ClausePlace → Type 0
KeepsOrder c before after = ((q : ClausePlace) → Contains before q → q.clause < c) → AllPairs ComesBefore before → AllPairs ComesBefore after
