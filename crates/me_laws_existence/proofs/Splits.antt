-- Whether clauses split is decided, and a first Split is found.
use Rattle.std.proofs.Common.{◌≡◌, ℕ, zero, suc, ◌<◌, ◌⊎◌, inl, inr, List, [], ◌∷◌, length, slice_get, get_or, Option, Some, None, refl, sym, subst, ap, ◌∙◌, arith}
use Rattle.std.specs.List.{Contains}
use Rattle.std.proofs.lemmas.Option.{slice_get_within}
use Rattle.me_terms.specs.Substitutions.{Family}
use Rattle.me_terms.specs.Measures.{canonical_literal}
use Rattle.me_terms.specs.Values.{ProblemValue, ClauseValue}
use Rattle.me_terms.specs.Context.{Context}
use Rattle.me_terms.specs.Positions.{positions_of}
use Rattle.me_terms.specs.Remainder.{remainder}
use Rattle.me_terms.specs.Unifier.{unified}
use Rattle.me_terms.specs.Fits.{Fits}
use Rattle.me_terms.specs.Productive.{IsProductiveUnifier}
use Rattle.me_terms.specs.Split.{IsSplit, HasSplit}
use Rattle.me_terms.specs.Order.{Precedes, split_key, IsLeastSplit}
use Rattle.me_terms.specs.declared.bounds.Bounds.{Bounds}
use Rattle.me_terms.specs.declared.atom.Literal.{Literal}
use Rattle.me_laws.proofs.Determined.{remainder_same, split_determined}
use Rattle.me_laws_existence.proofs.Solvable.{same_number}
use Rattle.me_laws_existence.proofs.Best.{Among, best, precedes_itself}
use Rattle.me_laws_existence.proofs.Codes.{Code}
use Rattle.me_laws_existence.proofs.Clashes.{fits_decided}
use Rattle.me_laws_existence.proofs.Closes.{candidates, among_candidates, turn}
use Rattle.me_laws_existence.proofs.Asserts.{canonical_turned, literal_moved}
use Rattle.me_laws_existence.proofs.Productive.{HasOne, one_decided}

not_in : (y : ℕ) (ys : List ℕ) (x : ℕ) → ¬ (y ≡ x) → ¬ Contains ys x → (k : ℕ) → k < length (y ∷ ys) → get_or (y ∷ ys) k x ≡ x → ⊥
not_in y ys x here later zero lt e = here e
not_in y ys x here later (suc k) lt e = later (k, omega (arith, lt), e)

pub contains_decided : (xs : List ℕ) (x : ℕ) → Contains xs x ⊎ (¬ Contains xs x)
contains_decided [] x = inr (λ h. let lt = h.1 in omega (arith, lt))
contains_decided (y ∷ ys) x =
    elim (same_number y x) as (λ _. Contains (y ∷ ys) x ⊎ (¬ Contains (y ∷ ys) x)) [
      | inl e ↦ inl (0, omega arith, e)
      | inr here ↦ elim (contains_decided ys x) as (λ _. Contains (y ∷ ys) x ⊎ (¬ Contains (y ∷ ys) x)) [
        | inl h ↦ let lt = h.1 in inl (suc h.0, omega (arith, lt), h.2)
        | inr later ↦ inr (λ h. not_in y ys x here later h.0 h.1 h.2)
      ]
    ]

module _ (problem : ProblemValue) (bounds : Bounds) (context : Context) where
  abbrev Splitting : Code → Type 0
  Splitting a = (size : ℕ) × (l : Literal) × IsSplit problem bounds context a.0 a.1 a.2 size l

  module _ (c place : ℕ) (tuple : List ℕ) where
    split_fits : (x : ClauseValue) (l : Literal) (u : Family) → IsProductiveUnifier problem context c tuple x u → slice_get x.literals place ≡ Some l → Contains (remainder context (positions_of None tuple) u) place → Fits bounds (canonical_literal (unified u l)) ⊎ (¬ Fits bounds (canonical_literal (unified u l))) → Splitting (c, place, tuple) ⊎ (¬ Splitting (c, place, tuple))
    split_fits x l u p here remains (inl fits) =
        inl (length (remainder context (positions_of None tuple) u), canonical_literal (unified u l), record { clause = x; literal = l; family = u; productive = p; literal_at = here; remains = remains; size_of = refl; split_literal = refl; fits = fits })
    split_fits x l u p here remains (inr never) =
        inr (λ g.
        let f = g.2 in
        let same = canonical_turned problem context c None tuple place x f.clause l f.literal u f.family p.clause_at f.productive.clause_at here f.literal_at p.unifier f.productive.unifier in
        let P : Literal → Type 0 = λ z. Fits bounds z in
        never (subst P (f.split_literal ∙ sym same) f.fits))

    split_remains : (x : ClauseValue) (l : Literal) (u : Family) → IsProductiveUnifier problem context c tuple x u → slice_get x.literals place ≡ Some l → Contains (remainder context (positions_of None tuple) u) place ⊎ (¬ Contains (remainder context (positions_of None tuple) u) place) → Splitting (c, place, tuple) ⊎ (¬ Splitting (c, place, tuple))
    split_remains x l u p here (inl h) = split_fits x l u p here h (fits_decided bounds (canonical_literal (unified u l)))
    split_remains x l u p here (inr never) =
        inr (λ g.
        let f = g.2 in
        let P : List ℕ → Type 0 = λ z. Contains z place in
        never (subst P (sym (remainder_same context (positions_of None tuple) u f.family (turn problem context c None tuple x f.clause u f.family p.clause_at f.productive.clause_at p.unifier f.productive.unifier))) f.remains))

    split_at : (x : ClauseValue) (u : Family) (o : Option Literal) → IsProductiveUnifier problem context c tuple x u → slice_get x.literals place ≡ o → Splitting (c, place, tuple) ⊎ (¬ Splitting (c, place, tuple))
    split_at x u None p e = inr (λ g. let f = g.2 in let there = literal_moved problem c place x f.clause f.literal p.clause_at f.productive.clause_at f.literal_at in cc (e, there))
    split_at x u (Some l) p e = split_remains x l u p e (contains_decided (remainder context (positions_of None tuple) u) place)

    split_by : HasOne problem context c tuple ⊎ (¬ HasOne problem context c tuple) → Splitting (c, place, tuple) ⊎ (¬ Splitting (c, place, tuple))
    split_by (inl h) = split_at h.0 h.1 (slice_get h.0.literals place) h.2 refl
    split_by (inr never) = inr (λ g. let f = g.2 in never (f.clause, f.family, f.productive))

  splitting_among : (a : Code) → Splitting a → Among a (candidates problem context)
  splitting_among a g =
      let f = g.2 in
      let lt = slice_get_within f.clause.literals a.1 f.literal f.literal_at in
      among_candidates problem context a.0 a.1 a.2 f.clause None f.productive.clause_at (omega (arith, lt)) f.productive.unifier.opposite

  splitting_key : (a : Code) → Splitting a → List ℕ
  splitting_key a r = split_key a.0 a.2 a.1 r.0 r.1

  one_key : (a : Code) (r s : Splitting a) → Precedes (splitting_key a r) (splitting_key a s)
  unfolding splitting_key
  one_key a r s =
      let f = r.2 in
      let g = s.2 in
      let turned = turn problem context a.0 None a.2 f.clause g.clause f.family g.family f.productive.clause_at g.productive.clause_at f.productive.unifier g.productive.unifier in
      let sizes : r.0 ≡ s.0 = f.size_of ∙ (ap (λ (z : List ℕ). length z) (remainder_same context (positions_of None a.2) f.family g.family turned) ∙ sym g.size_of) in
      let literals : r.1 ≡ s.1 = split_determined problem bounds context a.0 a.2 a.1 r.0 s.0 r.1 s.1 f g in
      let P : ℕ × Literal → Type 0 = λ z. Precedes (split_key a.0 a.2 a.1 r.0 r.1) (split_key a.0 a.2 a.1 z.0 z.1) in
      subst P (λ i. (sizes i, literals i)) (precedes_itself (split_key a.0 a.2 a.1 r.0 r.1))

  pub least_split : ((l : Literal) × IsLeastSplit problem bounds context l) ⊎ (¬ HasSplit problem bounds context)
  unfolding splitting_key
  least_split =
      elim (best Code Splitting splitting_key one_key (λ a. split_by a.0 a.1 a.2 (one_decided problem context a.0 a.2)) (candidates problem context) splitting_among) as (λ _. ((l : Literal) × IsLeastSplit problem bounds context l) ⊎ (¬ HasSplit problem bounds context)) [
        | inl m ↦ inl (m.holds.1, (m.at.0, m.at.1, m.holds.0, m.at.2, m.holds.2, λ c place size tuple l h. m.least (c, place, tuple) (size, l, h)))
        | inr none ↦ inr (λ h. none (h.0, h.1, h.3) (h.2, h.4, h.5))
      ]
