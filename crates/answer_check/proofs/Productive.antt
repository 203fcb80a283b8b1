-- The search of a clause's tuples for one with a productive unifier.
use Rattle.std.proofs.Common.{◌≡◌, ◌↔◌, ℕ, inl, inr, Bool, IsTrue, List, Option, None, Some, Result, refl, sym, subst, ◌∙◌}
use Rattle.std.specs.Prelude.{IfOk, IfSome, IsSome}
use Rattle.std.proofs.lemmas.Option.{same_Some}
use Rattle.me_terms.specs.Context.{Context}
use Rattle.me_terms.specs.Positions.{positions_of}
use Rattle.me_terms.specs.Productive.{IsProductive}
use Rattle.me_terms.specs.Substitutions.{Family}
use Rattle.me_terms.specs.Unifier.{IsUnifier, IsContextUnifier}
use Rattle.me_terms.specs.declared.atom.Literal.{Literal}
use Rattle.joint_unifiers.specs.ClauseUnifiers.{UnifierValue, IsUnifierOf}
use Rattle.tuple_search.specs.Enumeration.{no_limits, HasUnifier, IsLater, IsLastTuple}
use Rattle.tuple_search.specs.Cursors.{CursorValue}
use Rattle.next_rule.proofs.Cursors.{IsCursor, Advances}
use Rattle.next_rule.proofs.Tuples.{passed_or_here}
use Rattle.answer_check.specs.Entries.{IsProductiveTuple, HasProductiveUnifier}
use Rattle.answer_check.proofs.Sources.{if_ok}

-- ---- one tuple

module _ (context : Context) (literals : List Literal) (tuple : List ℕ) (found : Option UnifierValue) (u : UnifierValue) (is : found ≡ Some u) (exact : IsSome found ↔ ((f : Family) × IsContextUnifier context literals None tuple f)) (unifier : IfSome found (λ v. IsUnifierOf context literals None tuple v)) where
  found_one : (f : Family) × IsContextUnifier context literals None tuple f
  found_one = let P : Option UnifierValue → Type 0 = λ z. IsSome z in exact.0 (subst P (sym is) refl)

  found_tuple : u.tuple ≡ tuple
  found_tuple = let P : Option UnifierValue → Type 0 = λ z. IfSome z (λ v. IsUnifierOf context literals None tuple v) in (subst P is unifier).tuple

  -- The test's answer for each unifier of these positions.
  abbrev Tells : List ℕ → Bool → Type 0
  Tells positions b = (f : Family) → IsUnifier context literals (positions_of None positions) f → IsTrue b ↔ IsProductive context literals (positions_of None positions) f

  tells_tuple : (b : Bool) → Tells u.tuple b → IsTrue b ↔ IsProductiveTuple context literals tuple
  tells_tuple b told =
      let tells = subst (λ (z : List ℕ). Tells z b) found_tuple told in (
        λ is_so. (found_one.0, found_one.1, (tells found_one.0 found_one.1.unifier).0 is_so),
        λ p. (tells p.0 p.1.unifier).1 p.2,
      )

  pub productive_exact : {E : Type 0} (answer : Result Bool E) → IfOk answer (Tells u.tuple) → IfOk answer (λ b. IsTrue b ↔ IsProductiveTuple context literals tuple)
  productive_exact answer tells = if_ok answer (Tells u.tuple) (λ b. IsTrue b ↔ IsProductiveTuple context literals tuple) tells_tuple tells

-- ---- all tuples

module _ (context : Context) (literals : List Literal) where
  -- No tuple that the cursor has passed has a productive unifier.
  pub record NoneSoFar (cursor : CursorValue) : Type 0 where
    pub over : IsCursor context literals None no_limits cursor
    pub none : (tuple : List ℕ) → ¬ IsLater cursor.at tuple → ¬ IsProductiveTuple context literals tuple

  has_unifier : (tuple : List ℕ) → IsProductiveTuple context literals tuple → HasUnifier context literals None no_limits tuple
  has_unifier tuple p = (p.0, p.1, record { remains = tt; weighs = tt; pivot = tt })

  pub none_begun : (cursor : CursorValue) → IsCursor context literals None no_limits cursor → cursor.at ≡ None → NoneSoFar cursor
  none_begun cursor over e =
      let P : Option (List ℕ) → Type 0 = λ z. (tuple : List ℕ) → ¬ IsLater z tuple → ¬ IsProductiveTuple context literals tuple in
      record { over = over; none = subst P (sym e) (λ tuple passed p. passed tt) }

  pub none_more : (old new : CursorValue) (tuple : List ℕ) → NoneSoFar old → Advances context literals None no_limits old new → new.at ≡ Some tuple → ¬ IsProductiveTuple context literals tuple → NoneSoFar new
  none_more old new tuple so_far moves shown not_this =
      let P : Option (List ℕ) → Type 0 = λ z. (t : List ℕ) → ¬ IsLater z t → ¬ IsProductiveTuple context literals t in
      let Q : List ℕ → Type 0 = λ z. ¬ IsProductiveTuple context literals z in
      let not_next : Q moves.tuple = subst Q (same_Some tuple moves.tuple (sym shown ∙ moves.stands)) not_this in
      record {
        over = moves.over;
        none = subst P (sym moves.stands) (λ t passed p.
            elim (passed_or_here context literals None no_limits old.at moves.tuple t moves.is_next (has_unifier t p) passed) as (λ _. ⊥) [
              | inl before ↦ so_far.none t before p
              | inr same ↦ not_next (subst (λ z. IsProductiveTuple context literals z) same p)
            ]);
      }

  pub none_at_end : (cursor : CursorValue) → NoneSoFar cursor → IsLastTuple context literals None no_limits cursor.at → ¬ HasProductiveUnifier context literals
  none_at_end cursor so_far last has = so_far.none has.0 (last has.0 (has_unifier has.0 has.1)) has.1
