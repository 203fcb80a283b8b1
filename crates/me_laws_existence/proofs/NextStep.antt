-- Each context has a next step.
use Rattle.std.proofs.Common.{◌≡◌, ℕ, suc, ◌+◌, ◌<◌, ◌≤◌, Bool, true, false, cond, ◌⊎◌, inl, inr, List, [], ◌∷◌, length, Option, None, refl, sym, subst, arith}
use Rattle.std.specs.List.{Contains}
use Rattle.me_terms.specs.Terms.{AtomValue}
use Rattle.me_terms.specs.Substitutions.{Family}
use Rattle.me_terms.specs.Variables.{canonical}
use Rattle.me_terms.specs.Measures.{literal_depth, literal_weight, canonical_literal}
use Rattle.me_terms.specs.Values.{ProblemValue, EntryValue}
use Rattle.me_terms.specs.Context.{Context}
use Rattle.me_terms.specs.Positions.{positions_of, entry_at}
use Rattle.me_terms.specs.Remainder.{remains_at, remainder, remainder_from}
use Rattle.me_terms.specs.Unifier.{unified}
use Rattle.me_terms.specs.Fits.{Fits}
use Rattle.me_terms.specs.Split.{split_kind, HasSplit}
use Rattle.me_terms.specs.Next.{NextValue, Close, Assert, Split, Exhausted, Bounded, IsNext, HasRoom, IsFirstRemaining}
use Rattle.me_terms.specs.Order.{clause_key, IsLeastAssert, IsLeastSplit}
use Rattle.me_terms.specs.Close.{HasClose}
use Rattle.me_terms.specs.Assert.{HasAssert}
use Rattle.me_terms.specs.Productive.{HasProductive}
use Rattle.me_terms.specs.declared.bounds.Bound.TheVariants as bound
use Rattle.me_terms.specs.declared.bounds.Bounds.{Bounds}
use Rattle.me_terms.specs.declared.atom.Literal.{Literal}
use Rattle.me_laws.proofs.NoContradiction.{canonical_below, canonical_above}
use Rattle.me_laws.proofs.Renaming.{Variants, depth_same, weight_same}
use Rattle.me_laws_existence.specs.Existence.{HasLeastCandidates}
use Rattle.me_laws_existence.proofs.Best.{Best, compared}
use Rattle.me_laws_existence.proofs.Codes.{Code}
use Rattle.me_laws_existence.proofs.Opposed.{there}
use Rattle.me_laws_existence.proofs.Clashes.{le_decided}
use Rattle.me_laws_existence.proofs.Closes.{least_close}
use Rattle.me_laws_existence.proofs.Asserts.{least_assert}
use Rattle.me_laws_existence.proofs.Productive.{Producing, least_productive}
use Rattle.me_laws_existence.proofs.Splits.{least_split}

pub least_candidates : (problem : ProblemValue) (bounds : Bounds) (context : Context) → HasLeastCandidates problem bounds context
least_candidates problem bounds context = record {
  close = least_close problem context;
  assert = least_assert problem bounds context;
  split = least_split problem bounds context;
  productive = elim (least_productive problem context) as (λ _. HasProductive problem context ⊎ (¬ HasProductive problem context)) [
    | inl m ↦ let g = m.holds.1 in inl (m.at.0, m.at.2, g.0, g.1, g.2)
    | inr none ↦ inr (λ h. none (h.0, 0, h.1) (refl, (h.2, h.3, h.4)))
  ];
}

-- ---- the first remainder place is a place
place_by : (i : ℕ) (context : Context) (k : Option ℕ) (ks : List (Option ℕ)) (u : Family) (place : ℕ) (others : List ℕ) (test : Bool) → (remainder_from (i + 1) context ks u ≡ place ∷ others → place < (i + 1) + length ks) → cond test (i ∷ remainder_from (i + 1) context ks u) (remainder_from (i + 1) context ks u) ≡ place ∷ others → place < i + suc (length ks)
place_by i context k ks u place others true later h = let same : i ≡ place = cc h in omega (arith, same)
place_by i context k ks u place others false later h = let below = later h in omega (arith, below)

pub place_below : (i : ℕ) (context : Context) (ks : List (Option ℕ)) (u : Family) (place : ℕ) (others : List ℕ) → remainder_from i context ks u ≡ place ∷ others → place < i + length ks
place_below i context [] u place others h = cc h
place_below i context (k ∷ ks) u place others h =
    place_by i context k ks u place others (remains_at (entry_at context k) (u (i + 1))) (place_below (i + 1) context ks u place others) h

-- ---- an atom is as deep and heavy as its canonical form
pub variant : (a : AtomValue) → Variants a (canonical a)
variant a =
    let below = canonical_below a in
    let above = canonical_above a in
    record { there = below.0; back = above.0; to = below.1; from = above.1 }

fits_too : (bounds : Bounds) (l : Literal) → literal_depth l ≤ bounds.depth → literal_weight l ≤ bounds.weight → Fits bounds (canonical_literal l)
fits_too bounds l d w =
    let depths = depth_same l.atom (canonical l.atom) (variant l.atom) in
    let weights = weight_same l.atom (canonical l.atom) (variant l.atom) in
    (omega (arith, d, depths), omega (arith, w, weights))

at_most : (m n : ℕ) → ¬ (m + 1 ≤ n) → n ≤ m
at_most m n h = elim (le_decided n m) as (λ _. n ≤ m) [ inl g ↦ g | inr g ↦ absurd (h (elim (compared n m) as (λ _. m + 1 ≤ n) [ inl a ↦ absurd (g (omega (arith, a))) | inr b ↦ elim b as (λ _. m + 1 ≤ n) [ inl e ↦ absurd (g (omega (arith, e))) | inr c ↦ omega (arith, c) ] ])) ]

abbrev HasNext : ProblemValue → Bounds → Context → Type 0
HasNext problem bounds context = (step : NextValue) × IsNext problem bounds context step

module _ (problem : ProblemValue) (bounds : Bounds) (context : Context) (no_close : ¬ HasClose problem context) (no_assert : ¬ HasAssert problem bounds context) (no_split : ¬ HasSplit problem bounds context) where
  -- what is left is beyond a bound
  beyond : (l : Literal) → IsFirstRemaining problem context l → ¬ Fits bounds (canonical_literal l) → (literal_depth l ≤ bounds.depth) ⊎ (¬ (literal_depth l ≤ bounds.depth)) → (literal_weight l ≤ bounds.weight) ⊎ (¬ (literal_weight l ≤ bounds.weight)) → HasNext problem bounds context
  beyond l left over (inr deep) q = (Bounded bound.Depth, (no_close, (no_assert, no_split, (l, left, elim (le_decided (bounds.depth + 1) (literal_depth l)) as (λ _. bounds.depth < literal_depth l) [ inl h ↦ omega (arith, h) | inr h ↦ absurd (deep (at_most bounds.depth (literal_depth l) h)) ]))))
  beyond l left over (inl d) (inr heavy) = (Bounded bound.Weight, (no_close, (no_assert, no_split, (l, left, (d, elim (le_decided (bounds.weight + 1) (literal_weight l)) as (λ _. bounds.weight < literal_weight l) [ inl h ↦ omega (arith, h) | inr h ↦ absurd (heavy (at_most bounds.weight (literal_weight l) h)) ])))))
  beyond l left over (inl d) (inl w) = absurd (over (fits_too bounds l d w))

  first_remaining : (m : Best Code (Producing problem context) (λ a r. clause_key a.0 a.2)) (rest : List ℕ) → remainder context (positions_of None m.at.2) m.holds.1.1 ≡ rest → HasNext problem bounds context
  first_remaining m [] e =
      let g = m.holds.1 in
      let f = g.2 in
      absurd (no_close (m.at.0, m.at.2, record { clause = g.0; family = g.1; clause_at = f.clause_at; unifier = f.unifier; no_remainder = e }))
  first_remaining m (place ∷ others) e =
      let g = m.holds.1 in
      let f = g.2 in
      let below = place_below 0 context (positions_of None m.at.2) g.1 place others e in
      let long = f.unifier.opposite.each_place in
      let l = there g.0.literals place (omega (arith, below, long)) in
      let first_one : IsFirstRemaining problem context (unified g.1 l.0) = record {
        c = m.at.0;
        tuple = m.at.2;
        clause = g.0;
        family = g.1;
        place = place;
        others = others;
        literal = l.0;
        productive = f;
        first = λ c tuple x u h. m.least (c, 0, tuple) (refl, (x, u, h));
        first_place = e;
        literal_at = l.1;
        unified_literal = refl;
      } in
      let P : List ℕ → Type 0 = λ z. Contains z place in
      beyond (unified g.1 l.0) first_one
      (λ fits. no_split (
        m.at.0,
        place,
        length (remainder context (positions_of None m.at.2) g.1),
        m.at.2,
        canonical_literal (unified g.1 l.0),
        record {
          clause = g.0;
          literal = l.0;
          family = g.1;
          productive = f;
          literal_at = l.1;
          remains = subst P (sym e) (0, omega arith, refl);
          size_of = refl;
          split_literal = refl;
          fits = fits;
        },
      ))
      (le_decided (literal_depth (unified g.1 l.0)) bounds.depth) (le_decided (literal_weight (unified g.1 l.0)) bounds.weight)

  no_split_next : Best Code (Producing problem context) (λ a r. clause_key a.0 a.2) ⊎ ((a : Code) → ¬ Producing problem context a) → HasNext problem bounds context
  no_split_next (inl m) = first_remaining m (remainder context (positions_of None m.at.2) m.holds.1.1) refl
  no_split_next (inr none) = (Exhausted, (no_close, no_assert, λ h. none (h.0, 0, h.1) (refl, (h.2, h.3, h.4))))

module _ (problem : ProblemValue) (bounds : Bounds) (context : Context) where
  abbrev Roomy : Type 0
  Roomy = HasRoom bounds context ⊎ (¬ HasRoom bounds context)

  room_decided : Roomy
  room_decided = elim (le_decided (length context + 1) bounds.literals) as (λ _. Roomy) [ inl h ↦ inl (omega (arith, h)) | inr h ↦ inr (λ g. h (omega (arith, g))) ]

  split_next : ¬ HasClose problem context → ¬ HasAssert problem bounds context → ((l : Literal) × IsLeastSplit problem bounds context l) → Roomy → HasNext problem bounds context
  split_next no_close no_assert h (inl room) = (Split h.0 (split_kind h.0), (no_close, no_assert, room, h.1, refl))
  split_next no_close no_assert h (inr full) =
      (Bounded bound.Literals, (no_close, (full, inr (h.1.0, h.1.1, h.1.2, h.1.3, h.0, h.1.4))))

  assert_next : ¬ HasClose problem context → ((e : EntryValue) × IsLeastAssert problem bounds context e) → Roomy → HasNext problem bounds context
  assert_next no_close h (inl room) = (Assert h.0, (no_close, room, h.1))
  assert_next no_close h (inr full) = (Bounded bound.Literals, (no_close, (full, inl (h.1.0, h.1.1, h.1.2, h.0, h.1.3))))

  pub next_step : HasNext problem bounds context
  next_step =
      elim (least_close problem context) as (λ _. HasNext problem bounds context) [
        | inl h ↦ (Close h.0 h.1, h.2)
        | inr no_close ↦ elim (least_assert problem bounds context) as (λ _. HasNext problem bounds context) [
          | inl h ↦ assert_next no_close h room_decided
          | inr no_assert ↦ elim (least_split problem bounds context) as (λ _. HasNext problem bounds context) [
            | inl h ↦ split_next no_close no_assert h room_decided
            | inr no_split ↦ no_split_next problem bounds context no_close no_assert no_split (least_productive problem context)
          ]
        ]
      ]
