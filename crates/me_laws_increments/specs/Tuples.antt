-- What a tuple of a context's positions means is the same in each context that goes on from there.
use Rattle.std.specs.Prelude.{◌≡◌, ℕ, ◌<◌, ◌↔◌, List, ◌++◌, length, Option}
use Rattle.std.specs.List.{Contains}
use Rattle.me_terms.specs.Substitutions.{Family}
use Rattle.me_terms.specs.Values.{EntryValue}
use Rattle.me_terms.specs.Context.{Context, StandsAt, IsHidden}
use Rattle.me_terms.specs.Positions.{positions_of, AreOpposite}
use Rattle.me_terms.specs.Unifier.{Solves, IsUnifier}
use Rattle.me_terms.specs.Remainder.{remainder}
use Rattle.me_terms.specs.Assert.{asserted_entry}
use Rattle.me_terms.specs.declared.atom.Literal.{Literal}

-- Each number of the tuple is a position of the context.
abbrev pub IsWithin : Context → List ℕ → Type 0
IsWithin context tuple = (k : ℕ) → Contains tuple k → k < length context

-- No entry at a position of the tuple is hidden.
abbrev pub AreVisible : Context → List ℕ → Type 0
AreVisible context tuple = (k : ℕ) (e : EntryValue) → Contains tuple k → StandsAt context k e → ¬ IsHidden context k e

-- A tuple whose entries are set against the literals of a clause is within the context.
abbrev pub OppositeIsWithin : Type 0
OppositeIsWithin = (context : Context) (literals : List Literal) (skip : Option ℕ) (tuple : List ℕ) → AreOpposite context literals (positions_of skip tuple) → IsWithin context tuple

-- A tuple of the context is set against the literals later exactly where it was before and is visible still.
abbrev pub OppositeWhileVisible : Type 0
OppositeWhileVisible = (context more : Context) (literals : List Literal) (skip : Option ℕ) (tuple : List ℕ) → IsWithin context tuple → AreOpposite (context ++ more) literals (positions_of skip tuple) ↔ (AreOpposite context literals (positions_of skip tuple) × AreVisible (context ++ more) tuple)

-- A tuple of the context has the same solutions later.
abbrev pub SolutionsStay : Type 0
SolutionsStay = (context more : Context) (literals : List Literal) (skip : Option ℕ) (tuple : List ℕ) (u : Family) → IsWithin context tuple → Solves context literals (positions_of skip tuple) u ↔ Solves (context ++ more) literals (positions_of skip tuple) u

-- A tuple of the context has the same most general unifiers later.
abbrev pub UnifiersStay : Type 0
UnifiersStay = (context more : Context) (literals : List Literal) (skip : Option ℕ) (tuple : List ℕ) (u : Family) → IsWithin context tuple → IsUnifier context literals (positions_of skip tuple) u ↔ IsUnifier (context ++ more) literals (positions_of skip tuple) u

-- The same places of a tuple of the context remain later.
abbrev pub RemaindersStay : Type 0
RemaindersStay = (context more : Context) (skip : Option ℕ) (tuple : List ℕ) (u : Family) → IsWithin context tuple → remainder context (positions_of skip tuple) u ≡ remainder (context ++ more) (positions_of skip tuple) u

-- The entry for a literal that follows from a tuple of the context has the same kind and reason later.
abbrev pub AssertedEntriesStay : Type 0
AssertedEntriesStay = (context more : Context) (c place : ℕ) (tuple : List ℕ) (l : Literal) → IsWithin context tuple → asserted_entry context c place tuple l ≡ asserted_entry (context ++ more) c place tuple l
