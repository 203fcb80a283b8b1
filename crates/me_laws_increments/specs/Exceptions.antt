-- What makes an exception makes it for good.
use Rattle.std.specs.Prelude.{◌≡◌, ℕ, ◌⊎◌, ◌↔◌, List, ◌++◌, Option}
use Rattle.me_terms.specs.Terms.{AtomValue}
use Rattle.me_terms.specs.Substitutions.{Family}
use Rattle.me_terms.specs.Values.{EntryValue}
use Rattle.me_terms.specs.Context.{Context, StandsAt}
use Rattle.me_terms.specs.Produces.{HasException, Produces}
use Rattle.me_terms.specs.Positions.{positions_of, StandsAgainst}
use Rattle.me_terms.specs.Unifier.{IsContextUnifier, unified}
use Rattle.me_terms.specs.Productive.{IsProductive}
use Rattle.me_terms.specs.declared.entry.Kind.TheVariants.{Universal}
use Rattle.me_terms.specs.declared.atom.Literal.{Literal}

-- No entry that is used, but for Universal ones, has an exception at its literal under the family.
abbrev pub IsFree : Context → List Literal → List (Option ℕ) → Family → Type 0
IsFree context literals positions u =
    (i k : ℕ) (l : Literal) (e : EntryValue) → StandsAgainst context literals positions i l k e → (e.kind ≡ Universal) ⊎ (¬ HasException context e (unified u l).atom)

-- An entry that has an exception at an atom has one there later.
abbrev pub ExceptionsStay : Type 0
ExceptionsStay = (context more : Context) (e : EntryValue) (a : AtomValue) → HasException context e a → HasException (context ++ more) e a

-- What an entry of the context produces later it produces before.
abbrev pub ProducedBefore : Type 0
ProducedBefore = (context more : Context) (k : ℕ) (e : EntryValue) (l : Literal) → StandsAt context k e → Produces (context ++ more) k e l → Produces context k e l

-- A context unifier is productive exactly where it is free of exceptions.
abbrev pub ProductiveWhereFree : Type 0
ProductiveWhereFree = (context : Context) (literals : List Literal) (skip : Option ℕ) (tuple : List ℕ) (u : Family) → IsContextUnifier context literals skip tuple u → IsProductive context literals (positions_of skip tuple) u ↔ IsFree context literals (positions_of skip tuple) u
