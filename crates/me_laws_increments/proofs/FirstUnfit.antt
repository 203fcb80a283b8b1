-- What remains where there is neither Close nor Split.
use Rattle.std.proofs.Common.{◌≡◌, ℕ, suc, ◌+◌, ◌<◌, ◌≤◌, Bool, true, false, cond, ◌⊎◌, inl, inr, List, [], ◌∷◌, length, Option, None, refl, sym, subst, arith}
use Rattle.std.specs.List.{Contains}
use Rattle.std.proofs.lemmas.Bool.{cases_lt}
use Rattle.me_terms.specs.Terms.{AtomValue}
use Rattle.me_terms.specs.Substitutions.{Family}
use Rattle.me_terms.specs.Variables.{canonical}
use Rattle.me_terms.specs.Measures.{literal_depth, literal_weight, canonical_literal}
use Rattle.me_terms.specs.Values.{ProblemValue, ClauseValue}
use Rattle.me_terms.specs.Context.{Context}
use Rattle.me_terms.specs.Positions.{positions_of, entry_at}
use Rattle.me_terms.specs.Unifier.{unified}
use Rattle.me_terms.specs.Remainder.{remains_at, remainder_from, remainder}
use Rattle.me_terms.specs.Productive.{IsProductiveUnifier}
use Rattle.me_terms.specs.Close.{HasClose}
use Rattle.me_terms.specs.Assert.{HasAssert}
use Rattle.me_terms.specs.Split.{HasSplit}
use Rattle.me_terms.specs.Fits.{Fits}
use Rattle.me_terms.specs.Next.{Bounded, IsFirstRemaining, IsBeyond, IsNext}
use Rattle.me_terms.specs.declared.bounds.Bound.{Bound}
use Rattle.me_terms.specs.declared.bounds.Bound.TheVariants as bound
use Rattle.me_terms.specs.declared.bounds.Bounds.{Bounds}
use Rattle.me_terms.specs.declared.atom.Literal.{Literal}
use Rattle.me_laws.proofs.Renaming.{depth_same, weight_same}
use Rattle.me_laws_existence.proofs.NextStep.{place_below, variant}
use Rattle.me_laws_increments.proofs.Places.{there}
use Rattle.me_laws_increments.specs.FirstUnfit.{HasFirstPlace, FitsAsCanonical, RemainingIsUnfit, LeastIsFirstRemaining}

module _ (problem : ProblemValue) (context : Context) (c : ℕ) (tuple : List ℕ) (clause : ClauseValue) (family : Family) (no_close : ¬ HasClose problem context) (h : IsProductiveUnifier problem context c tuple clause family) where
  first_by : (rest : List ℕ) → remainder context (positions_of None tuple) family ≡ rest → HasFirstPlace context tuple clause family
  first_by [] e =
      absurd (no_close (c, tuple, record { clause = clause; family = family; clause_at = h.clause_at; unifier = h.unifier; no_remainder = e }))
  first_by (place ∷ others) e =
      let below = place_below 0 context (positions_of None tuple) family place others e in
      let long = h.unifier.opposite.each_place in
      let l = there clause.literals place (omega (arith, below, long)) in
      record { place = place; others = others; literal = l.0; first_place = e; literal_at = l.1 }

  pub remains : HasFirstPlace context tuple clause family
  remains = first_by (remainder context (positions_of None tuple) family) refl

fits_too : (bounds : Bounds) (l : Literal) → Fits bounds l → Fits bounds (canonical_literal l)
fits_too bounds l h =
    let depths = depth_same l.atom (canonical l.atom) (variant l.atom) in
    let weights = weight_same l.atom (canonical l.atom) (variant l.atom) in
    (omega (arith, h.0, depths), omega (arith, h.1, weights))

pub fits_back : (bounds : Bounds) (l : Literal) → Fits bounds (canonical_literal l) → Fits bounds l
fits_back bounds l h =
    let depths = depth_same l.atom (canonical l.atom) (variant l.atom) in
    let weights = weight_same l.atom (canonical l.atom) (variant l.atom) in
    (omega (arith, h.0, depths), omega (arith, h.1, weights))

pub remaining_is_unfit : RemainingIsUnfit
remaining_is_unfit problem bounds context c tuple clause family place literal no_split h remaining at fits =
    no_split (
      c,
      place,
      length (remainder context (positions_of None tuple) family),
      tuple,
      canonical_literal (unified family literal),
      record {
        clause = clause;
        literal = literal;
        family = family;
        productive = h;
        literal_at = at;
        remains = remaining;
        size_of = refl;
        split_literal = refl;
        fits = fits_too bounds (unified family literal) fits;
      },
    )

pub least_is_first_remaining : LeastIsFirstRemaining
least_is_first_remaining problem context c tuple clause family productive least h = record {
  c = c;
  tuple = tuple;
  clause = clause;
  family = family;
  place = h.place;
  others = h.others;
  literal = h.literal;
  productive = productive;
  first = least;
  first_place = h.first_place;
  literal_at = h.literal_at;
  unified_literal = refl;
}

-- ---- the bound
module _ (problem : ProblemValue) (bounds : Bounds) (context : Context) (l : Literal) (no_close : ¬ HasClose problem context) (no_assert : ¬ HasAssert problem bounds context) (no_split : ¬ HasSplit problem bounds context) (left : IsFirstRemaining problem context l) where
  never_fits : ¬ Fits bounds l
  never_fits fits =
      let P : List ℕ → Type 0 = λ z. Contains z left.place in
      let Q : Literal → Type 0 = λ z. Fits bounds z in
      remaining_is_unfit problem bounds context left.c left.tuple left.clause left.family left.place left.literal no_split left.productive (subst P (sym left.first_place) (0, omega arith, refl)) left.literal_at (subst Q left.unified_literal fits)

  by_weight : literal_depth l ≤ bounds.depth → (bounds.weight < literal_weight l) ⊎ (literal_weight l ≤ bounds.weight) → (b : Bound) × IsBeyond b bounds l × IsNext problem bounds context (Bounded b)
  by_weight d (inl heavy) =
      (bound.Weight, (d, heavy), (no_close, (no_assert, no_split, (l, left, (d, heavy)))))
  by_weight d (inr light) = absurd (never_fits (d, light))

  by_depth : (bounds.depth < literal_depth l) ⊎ (literal_depth l ≤ bounds.depth) → (b : Bound) × IsBeyond b bounds l × IsNext problem bounds context (Bounded b)
  by_depth (inl deep) = (bound.Depth, deep, (no_close, (no_assert, no_split, (l, left, deep))))
  by_depth (inr shallow) =
      by_weight shallow (cases_lt bounds.weight (literal_weight l))

  pub bounded : (b : Bound) × IsBeyond b bounds l × IsNext problem bounds context (Bounded b)
  bounded = by_depth (cases_lt bounds.depth (literal_depth l))

pub fits_as_canonical : FitsAsCanonical
fits_as_canonical bounds l = (fits_too bounds l, fits_back bounds l)
