-- A clause of two positive literals beside the negative pseudo-literal alone: both places have to be split on, and the first literal is the first that remains.
use Rattle.std.proofs.Common.{◌≡◌, ℕ, zero, suc, true, false, ◌⊎◌, inl, inr, List, [], ◌∷◌, length, map, slice_get, Option, None, Some, refl, sym, subst, arith}
use Rattle.std.proofs.lemmas.Option.{same_Some}
use Rattle.me_terms.specs.Terms.{AtomValue}
use Rattle.me_terms.specs.Substitutions.{Family, IsStrictlyMoreGeneral, apply_atom}
use Rattle.me_terms.specs.Measures.{canonical_literal}
use Rattle.me_terms.specs.Values.{ClauseValue}
use Rattle.me_terms.specs.Context.{Context, pseudo, IsVisible}
use Rattle.me_terms.specs.Produces.{HasException}
use Rattle.me_terms.specs.Positions.{positions_of, ClauseAt}
use Rattle.me_terms.specs.Unifier.{IsContextUnifier, unified}
use Rattle.me_terms.specs.Remainder.{remainder}
use Rattle.me_terms.specs.Productive.{IsProductiveUnifier}
use Rattle.me_terms.specs.Close.{HasClose}
use Rattle.me_terms.specs.Assert.{HasAssert}
use Rattle.me_terms.specs.Split.{HasSplit}
use Rattle.me_terms.specs.Order.{Precedes, clause_key}
use Rattle.me_terms.specs.Next.{IsFirstRemaining}
use Rattle.me_terms.specs.Grown.{start}
use Rattle.me_laws.specs.Pairing.{apart}
use Rattle.me_terms.specs.declared.entry.Kind.TheVariants.{Universal, Parametric}
use Rattle.me_terms.specs.declared.atom.Literal.{Literal}
use Rattle.me_terms.specs.declared.atom.Pattern.TheVariants.{Any}
use Rattle.me_laws.proofs.Apart.{apart_general}
use Rattle.me_laws.proofs.Generality.{strictly_irreflexive}
use Rattle.me_laws_examples.specs.Letters.{literal}
use Rattle.me_laws_examples.specs.BoundByFirstPlace.{either, one_clause}
use Rattle.me_terms.specs.Fits.{Fits}
use Rattle.me_terms.specs.declared.bounds.Bounds.{Bounds}
use Rattle.me_terms.specs.declared.bounds.Start.TheVariants.{Negative}
use Rattle.me_laws_examples.proofs.Short.{seen, of_start, opposite_by, solves_by, productive_by}

pseudo_visible : IsVisible (start Negative) 0 (pseudo false)
pseudo_visible = seen (start Negative) 0 (pseudo false) refl ((λ lt u s g. cc u), tt)

free : (a : AtomValue) → ¬ HasException (start Negative) (pseudo false) a
free a ex =
    of_start Negative (λ j f. (f.kind ≡ Universal) ⊎ ((f.kind ≡ Parametric) × IsStrictlyMoreGeneral Any f.atom) → ⊥)
    (λ r. elim r as (λ _. ⊥) [ inl u ↦ cc u | inr w ↦ strictly_irreflexive Any w.1 ])
    ex.0 ex.1 ex.2.0 ex.4

module _ (s t : AtomValue) where
  pub the_clause : (P : ℕ → ClauseValue → Type 0) → P 0 (either s t) → (c : ℕ) (clause : ClauseValue) → ClauseAt (one_clause s t) c clause → P c clause
  the_clause P first zero clause at = subst (P 0) (same_Some (either s t) clause at) first
  the_clause P first (suc c) clause at = cc at

  -- a tuple for both places has position 0 twice
  both_zero : (tuple : List ℕ) (family : Family) → IsContextUnifier (start Negative) (either s t).literals None tuple family → tuple ≡ 0 ∷ 0 ∷ []
  both_zero [] family h = let bad : zero ≡ suc (suc zero) = h.opposite.each_place in absurd (omega (arith, bad))
  both_zero (j ∷ []) family h = let bad : suc zero ≡ suc (suc zero) = h.opposite.each_place in absurd (omega (arith, bad))
  both_zero (j ∷ k ∷ []) family h =
      let first = h.opposite.visible 0 j (literal true s) refl refl in
      let second = h.opposite.visible 1 k (literal true t) refl refl in
      of_start Negative (λ i e. i ∷ k ∷ [] ≡ 0 ∷ 0 ∷ []) (of_start Negative (λ i e. 0 ∷ i ∷ [] ≡ 0 ∷ 0 ∷ []) refl k second.0 second.1.0) j first.0 first.1.0
  both_zero (i ∷ j ∷ k ∷ tuple) family h =
      let bad : suc (suc (suc (length (map {A = ℕ} {B = Option ℕ} (λ x. Some x) tuple)))) ≡ suc (suc zero) = h.opposite.each_place in absurd (omega (arith, bad))

  pub nothing_closes : ¬ HasClose (one_clause s t) (start Negative)
  nothing_closes h =
      the_clause (λ c clause. IsContextUnifier (start Negative) clause.literals None h.1 h.2.family → remainder (start Negative) (positions_of None h.1) h.2.family ≡ [] → ⊥)
      (λ unifier rest. let P : List ℕ → Type 0 = λ z. remainder (start Negative) (positions_of None z) h.2.family ≡ [] in
      let bad : 0 ∷ 1 ∷ [] ≡ [] = subst P (both_zero h.1 h.2.family unifier) rest in cc bad)
      h.0 h.2.clause h.2.clause_at h.2.unifier h.2.no_remainder

  pub productive : IsProductiveUnifier (one_clause s t) (start Negative) 0 (0 ∷ 0 ∷ []) (either s t) apart
  productive = record {
    clause_at = refl;
    unifier = record {
      opposite = opposite_by (start Negative) (either s t).literals (positions_of None (0 ∷ 0 ∷ [])) apart refl ((pseudo false, pseudo_visible, refl), ((pseudo false, pseudo_visible, refl), tt));
      unifier = apart_general (start Negative) (either s t).literals (positions_of None (0 ∷ 0 ∷ [])) (solves_by (start Negative) (either s t).literals (positions_of None (0 ∷ 0 ∷ [])) apart ((pseudo false, refl, tt), ((pseudo false, refl, tt), tt)));
    };
    productive = productive_by (start Negative) (either s t).literals (positions_of None (0 ∷ 0 ∷ [])) apart
        ((pseudo false, record { visible = pseudo_visible; same_sign = refl; generalizes = tt; undisputed = inr (λ ex. free (apply_atom (apart 0) s) ex) }), ((pseudo false, record { visible = pseudo_visible; same_sign = refl; generalizes = tt; undisputed = inr (λ ex. free (apply_atom (apart 0) t) ex) }), tt));
  }

  first_pair : (c : ℕ) (tuple : List ℕ) (clause : ClauseValue) (family : Family) → IsProductiveUnifier (one_clause s t) (start Negative) c tuple clause family → Precedes (clause_key 0 (0 ∷ 0 ∷ [])) (clause_key c tuple)
  first_pair c tuple clause family h =
      the_clause (λ d z. IsContextUnifier (start Negative) z.literals None tuple family → Precedes (clause_key 0 (0 ∷ 0 ∷ [])) (clause_key d tuple))
      (λ unifier. let P : List ℕ → Type 0 = λ z. Precedes (clause_key 0 (0 ∷ 0 ∷ [])) (clause_key 0 z) in
      subst P (sym (both_zero tuple family unifier)) (inr (refl, inr (refl, inr (refl, tt)))))
      c clause h.clause_at h.unifier

  pub first_remaining : IsFirstRemaining (one_clause s t) (start Negative) (unified apart (literal true s))
  first_remaining = record {
    c = 0;
    tuple = 0 ∷ 0 ∷ [];
    clause = either s t;
    family = apart;
    place = 0;
    others = 1 ∷ [];
    literal = literal true s;
    productive = productive;
    first = first_pair;
    first_place = refl;
    literal_at = refl;
    unified_literal = refl;
  }

-- no literal of the clause fits the bounds, whatever its variables become
module _ (bounds : Bounds) (s t : AtomValue) (unfit : (family : Family) (l : Literal) (place : ℕ) → slice_get (either s t).literals place ≡ Some l → ¬ Fits bounds (canonical_literal (unified family l))) where
  unfit_at : (c place : ℕ) (clause : ClauseValue) (l : Literal) (family : Family) → ClauseAt (one_clause s t) c clause → slice_get clause.literals place ≡ Some l → ¬ Fits bounds (canonical_literal (unified family l))
  unfit_at c place clause l family clause_at at h =
      the_clause s t (λ d z. slice_get z.literals place ≡ Some l → ⊥) (λ here. unfit family l place here h) c clause clause_at at

  pub nothing_asserted : {context : Context} → ¬ HasAssert (one_clause s t) bounds context
  nothing_asserted h = unfit_at h.0 h.1 h.4.clause h.4.literal h.4.family h.4.clause_at h.4.literal_at h.4.allowed.fits

  pub nothing_split : ¬ HasSplit (one_clause s t) bounds (start Negative)
  nothing_split h =
      let P : Literal → Type 0 = λ m. Fits bounds m in
      unfit_at h.0 h.1 h.5.clause h.5.literal h.5.family h.5.productive.clause_at h.5.literal_at (subst P h.5.split_literal h.5.fits)
