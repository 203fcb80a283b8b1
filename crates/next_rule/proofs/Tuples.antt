-- How far a cursor has come: what it passed, what is next, and what is left.
use Rattle.std.proofs.Common.{◌≡◌, ℕ, ◌⊎◌, inl, inr, List, Option, Some, None, sym, subst}
use Rattle.me_terms.specs.Order.{Precedes}
use Rattle.me_terms.specs.Context.{Context}
use Rattle.me_terms.specs.declared.atom.Literal.{Literal}
use Rattle.me_laws.proofs.Determined.{precedes_antisymmetric}
use Rattle.me_laws.proofs.Decisions.{both_decided, not_decided}
use Rattle.me_laws_existence.proofs.Best.{precedes_itself, precedes_transitive, precedes_total}
use Rattle.tuple_search.specs.declared.limits.Limits.{Limits}
use Rattle.tuple_search.specs.Enumeration.{IsLater, HasUnifier, IsNextTuple}
use Rattle.next_rule.proofs.Keys.{same_key}

precedes_decided : (a b : List ℕ) → Precedes a b ⊎ (¬ Precedes a b)
precedes_decided a b =
    elim (precedes_total a b) as (λ _. Precedes a b ⊎ (¬ Precedes a b)) [
      | inl f ↦ inl f
      | inr g ↦ elim (same_key b a) as (λ _. Precedes a b ⊎ (¬ Precedes a b)) [
        | inl e ↦ let P : List ℕ → Type 0 = λ z. Precedes a z in inl (subst P (sym e) (precedes_itself a))
        | inr apart ↦ inr (λ f. apart (precedes_antisymmetric b a g f))
      ]
    ]

pub later_decided : (at : Option (List ℕ)) (tuple : List ℕ) → IsLater at tuple ⊎ (¬ IsLater at tuple)
later_decided None tuple = inl tt
later_decided (Some a) tuple = both_decided _ _ (precedes_decided a tuple) (not_decided _ (same_key tuple a))

-- what does not come after a tuple precedes it
pub not_later : (a tuple : List ℕ) → ¬ IsLater (Some a) tuple → Precedes tuple a
not_later a tuple h =
    elim (precedes_total tuple a) as (λ _. Precedes tuple a) [
      | inl f ↦ f
      | inr g ↦ elim (same_key tuple a) as (λ _. Precedes tuple a) [
        | inl e ↦ let P : List ℕ → Type 0 = λ z. Precedes tuple z in subst P e (precedes_itself tuple)
        | inr apart ↦ absurd (h (g, apart))
      ]
    ]

-- a tuple that was passed precedes a later one
pub passed_precedes : (at : Option (List ℕ)) (tuple next : List ℕ) → ¬ IsLater at tuple → IsLater at next → Precedes tuple next
passed_precedes None tuple next passed later = absurd (passed tt)
passed_precedes (Some a) tuple next passed later = precedes_transitive tuple a next (not_later a tuple passed) later.0

-- and is not that one
pub passed_not : (at : Option (List ℕ)) (tuple later : List ℕ) → ¬ IsLater at tuple → IsLater at later → ¬ (tuple ≡ later)
passed_not at tuple later passed h same = let P : List ℕ → Type 0 = λ z. IsLater at z in passed (subst P (sym same) h)

-- what was passed stays so
pub passed_still : (at : Option (List ℕ)) (next tuple : List ℕ) → IsLater at next → ¬ IsLater at tuple → ¬ IsLater (Some next) tuple
passed_still at next tuple later passed again = again.1 (precedes_antisymmetric tuple next (passed_precedes at tuple next passed later) again.0)

-- a tuple is passed once a cursor stands at it
pub passed_here : (next tuple : List ℕ) → tuple ≡ next → ¬ IsLater (Some next) tuple
passed_here next tuple e again = again.1 e

module _ (context : Context) (literals : List Literal) (skip : Option ℕ) (limits : Limits) where
  -- where a cursor has gone to the next tuple, it has passed what it had, and that tuple
  pub passed_or_here : (at : Option (List ℕ)) (next tuple : List ℕ) → IsNextTuple context literals skip limits at next → HasUnifier context literals skip limits tuple → ¬ IsLater (Some next) tuple → (¬ IsLater at tuple) ⊎ (tuple ≡ next)
  passed_or_here at next tuple is_next has passed =
      elim (later_decided at tuple) as (λ _. (¬ IsLater at tuple) ⊎ (tuple ≡ next)) [
        | inl later ↦ inr (precedes_antisymmetric tuple next (not_later next tuple passed) (is_next.least tuple has later))
        | inr before ↦ inl before
      ]
