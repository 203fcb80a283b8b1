-- Which candidates of a context that goes on from another are new, and what is still to be asked of those that were kept.
use Rattle.std.specs.Prelude.{◌≡◌, ℕ, ◌↔◌, List, [], ◌++◌, slice_get, Some, None}
use Rattle.me_terms.specs.Substitutions.{Family}
use Rattle.me_terms.specs.Measures.{canonical_literal}
use Rattle.me_terms.specs.Values.{ProblemValue, ClauseValue, EntryValue}
use Rattle.me_terms.specs.Context.{Context}
use Rattle.me_terms.specs.Positions.{ClauseAt, positions_of}
use Rattle.me_terms.specs.Unifier.{IsContextUnifier, unified}
use Rattle.me_terms.specs.Remainder.{remainder}
use Rattle.me_terms.specs.Productive.{IsProductiveUnifier}
use Rattle.me_terms.specs.Fits.{Fits}
use Rattle.me_terms.specs.Close.{IsClose}
use Rattle.me_terms.specs.Assert.{asserted_kind, asserted_entry, IsAssert}
use Rattle.me_terms.specs.Split.{IsSplit}
use Rattle.me_terms.specs.declared.bounds.Bounds.{Bounds}
use Rattle.me_terms.specs.declared.atom.Literal.{Literal}
use Rattle.me_laws_increments.specs.Refusals.{Refuses}
use Rattle.me_laws_increments.specs.Exceptions.{IsFree}
use Rattle.me_laws_increments.specs.Tuples.{IsWithin, AreVisible}

-- A Close of a later context, with a tuple of the context, is one of the context.
abbrev pub OldCloses : Type 0
OldCloses = (problem : ProblemValue) (context more : Context) (c : ℕ) (tuple : List ℕ) → IsWithin context tuple → IsClose problem (context ++ more) c tuple → IsClose problem context c tuple

-- An Assert of a later context, with a tuple of the context, is one of the context.
abbrev pub OldAsserts : Type 0
OldAsserts = (problem : ProblemValue) (bounds : Bounds) (context more : Context) (c place : ℕ) (tuple : List ℕ) (e : EntryValue) → IsWithin context tuple → IsAssert problem bounds (context ++ more) c place tuple e → IsAssert problem bounds context c place tuple e

-- A productive unifier of a later context, with a tuple of the context, is one of the context.
abbrev pub OldProductiveUnifiers : Type 0
OldProductiveUnifiers = (problem : ProblemValue) (context more : Context) (c : ℕ) (tuple : List ℕ) (clause : ClauseValue) (family : Family) → IsWithin context tuple → IsProductiveUnifier problem (context ++ more) c tuple clause family → IsProductiveUnifier problem context c tuple clause family

-- A Split of a later context, with a tuple of the context, is one of the context.
abbrev pub OldSplits : Type 0
OldSplits = (problem : ProblemValue) (bounds : Bounds) (context more : Context) (c place : ℕ) (tuple : List ℕ) (size : ℕ) (l : Literal) → IsWithin context tuple → IsSplit problem bounds (context ++ more) c place tuple size l → IsSplit problem bounds context c place tuple size l

-- The canonical literal l follows at a place of clause c from the tuple and fits, whether it is refused or not.
pub record IsDerived (problem : ProblemValue) (bounds : Bounds) (context : Context) (c place : ℕ) (tuple : List ℕ) (l : Literal) : Type 0 where
  pub clause : ClauseValue
  pub literal : Literal
  pub family : Family
  pub clause_at : ClauseAt problem c clause
  pub literal_at : slice_get clause.literals place ≡ Some literal
  pub unifier : IsContextUnifier context clause.literals (Some place) tuple family
  pub no_remainder : remainder context (positions_of (Some place) tuple) family ≡ []
  pub derived : l ≡ canonical_literal (unified family literal)
  pub fits : Fits bounds l

-- Each Assert adds a literal that is derived.
abbrev pub AssertsAreDerived : Type 0
AssertsAreDerived = (problem : ProblemValue) (bounds : Bounds) (context : Context) (c place : ℕ) (tuple : List ℕ) (e : EntryValue) → IsAssert problem bounds context c place tuple e → (l : Literal) × (e ≡ asserted_entry context c place tuple l) × IsDerived problem bounds context c place tuple l

-- What was derived is an Assert later, of the same entry, exactly where its tuple is visible still and the literal is not refused.
abbrev pub DerivedIsAsserted : Type 0
DerivedIsAsserted = (problem : ProblemValue) (bounds : Bounds) (context more : Context) (c place : ℕ) (tuple : List ℕ) (l : Literal) → IsDerived problem bounds context c place tuple l → IsAssert problem bounds (context ++ more) c place tuple (asserted_entry context c place tuple l) ↔ (AreVisible (context ++ more) tuple × ¬ Refuses (context ++ more) l (asserted_kind context (positions_of (Some place) tuple) l))

-- What was a context unifier is productive later exactly where its tuple is visible still and it is free of exceptions.
abbrev pub UnifierIsProductive : Type 0
UnifierIsProductive = (problem : ProblemValue) (context more : Context) (c : ℕ) (tuple : List ℕ) (clause : ClauseValue) (family : Family) → ClauseAt problem c clause → IsContextUnifier context clause.literals None tuple family → IsProductiveUnifier problem (context ++ more) c tuple clause family ↔ (AreVisible (context ++ more) tuple × IsFree (context ++ more) clause.literals (positions_of None tuple) family)
