-- Where every listed instance has a true literal, every entry that is asked for makes true what it is asked at.
use Rattle.std.proofs.Common.{◌≡◌, ℕ, zero, suc, ◌<◌, inl, inr, List, [], ◌∷◌, ◌++◌, Some, refl, ◌∙◌, arith}
use Rattle.me_terms.specs.Values.{ProblemValue, InstanceValue, ReasonValue, Pseudo, Asserted, SplitLeft, SplitRight}
use Rattle.me_terms.specs.Context.{Context}
use Rattle.me_terms.specs.Positions.{positions_of}
use Rattle.me_terms.specs.Validity.{IsValid}
use Rattle.me_terms.specs.Refuted.{Valuation}
use Rattle.me_terms.specs.ListedInstances.{constant}
use Rattle.me_terms.specs.LeafList.{Demand, demands, IsAsserted, AddsNothing, Adds, none_waits, passes, adds}
use Rattle.me_terms.specs.declared.bounds.Bounds.{Bounds}
use Rattle.me_laws.proofs.Lists.{EachOf, each_contains, each_map, each_append, each_left, each_right}
use Rattle.me_laws_refutation.proofs.Sound.{IsReason, IsSound}
use Rattle.me_laws_refutation.specs.RightDemands.{IsRight}
use Rattle.me_laws_refutation.proofs.Demands.{IsRightBelow}
use Rattle.me_laws_refutation.proofs.Asked.{asked_facts}
use Rattle.me_laws_refutation.proofs.Places.{IsTrueUnder, HasTrue, IsGroundOf, asked_true}
use Rattle.me_laws_refutation.specs.SplitsTrue.{IsSplitTrue, AreSplitsTrue}
use Rattle.me_laws_refutation.proofs.Splits.{split_true, no_pseudo}

module _ (problem : ProblemValue) (valid : IsValid problem) (bounds : Bounds) (context : Context) (sound : IsSound problem bounds context) where
  -- ---- every instance that is added is ground
  pub all_ground : {before waiting : List Demand} {list : List InstanceValue} → Adds problem context before waiting list → EachOf (IsRight problem context) waiting → EachOf (IsGroundOf problem) list
  all_ground none_waits right = tt
  all_ground (passes f more) right = all_ground more right.1
  all_ground (adds {waiting = waiting} {d = d} {c = c} {place = place} {tuple = tuple} {literals = literals} fresh a q more) right =
      let facts = asked_facts problem valid bounds context sound d.0 c place tuple d.1 literals a q right.0 in
      let new = each_map (IsRightBelow problem context d.0) (IsRight problem context) (λ x h. h.1) _ facts.demands_right in
      (facts.is_ground, all_ground more (each_append (IsRight problem context) waiting (demands literals (positions_of (Some place) tuple)) right.1 new))

  module _ (value : Valuation) (splits : AreSplitsTrue problem value context) where
    -- ---- what was not asserted is true
    by_reason : (d : Demand) (right : IsRight problem context d) → ((c place : ℕ) (tuple : List ℕ) → ¬ IsAsserted context d.0 c place tuple) → (why : ReasonValue) → right.entry.reason ≡ why → IsReason problem bounds context d.0 right.entry why → IsSplitTrue problem value right.entry why → value d.1.atom ≡ right.entry.positive
    by_reason d right none Pseudo is reason there = absurd (no_pseudo _ right.entry.atom reason right.holds)
    by_reason d right none (Asserted c place tuple) is reason there = absurd (none c place tuple (right.entry, right.stands, is))
    by_reason d right none SplitLeft is reason there = split_true (constant problem.c0) value right.entry.atom right.entry.kind right.entry.positive d.1.atom reason there right.holds
    by_reason d right none SplitRight is reason there = split_true (constant problem.c0) value right.entry.atom right.entry.kind right.entry.positive d.1.atom reason there right.holds

    unasserted_true : (d : Demand) → IsRight problem context d → ((c place : ℕ) (tuple : List ℕ) → ¬ IsAsserted context d.0 c place tuple) → IsTrueUnder value d.1
    unasserted_true d right none =
        by_reason d right none right.entry.reason refl (sound.reasons d.0 right.entry right.stands) (splits d.0 right.entry right.stands) ∙ right.same_sign

    -- ---- by induction on positions
    abbrev pub IsTrueBelow : ℕ → Demand → Type 0
    IsTrueBelow n d = d.0 < n → IsTrueUnder value d.1

    weaker : (n : ℕ) (ds : List Demand) → EachOf (IsTrueBelow (suc n)) ds → EachOf (IsTrueBelow n) ds
    weaker n ds h = each_map (IsTrueBelow (suc n)) (IsTrueBelow n) (λ d f lt. f (omega arith)) ds h

    passed : (n : ℕ) (before : List Demand) (d : Demand) → AddsNothing context before d → EachOf (IsTrueBelow n) before → IsRight problem context d → IsTrueBelow n d
    passed n before d (inl again) known right = each_contains (IsTrueBelow n) before d known again
    passed n before d (inr none) known right = λ lt. unasserted_true d right none

    below_true : (n k : ℕ) → k < suc n → (ds : List Demand) → EachOf (IsRightBelow problem context k) ds → EachOf (IsTrueBelow n) ds → EachOf (λ d. IsTrueUnder value d.1) ds
    below_true n k lt [] f g = tt
    below_true n k lt (d ∷ ds) f g = (g.0 (omega (arith, f.0.0)), below_true n k lt ds f.1 g.1)

    Truths : ℕ → Type 0
    Truths n = (before waiting : List Demand) (list : List InstanceValue) → Adds problem context before waiting list → EachOf (IsTrueBelow n) before → EachOf (IsRight problem context) waiting → EachOf (HasTrue value) list → EachOf (IsTrueBelow n) waiting

    none_below : (ds : List Demand) → EachOf (IsTrueBelow 0) ds
    none_below [] = tt
    none_below (d ∷ ds) = (λ lt. absurd (omega arith), none_below ds)

    step : (n : ℕ) → Truths n → {before waiting : List Demand} {list : List InstanceValue} → Adds problem context before waiting list → EachOf (IsTrueBelow (suc n)) before → EachOf (IsRight problem context) waiting → EachOf (HasTrue value) list → EachOf (IsTrueBelow (suc n)) waiting
    unfolding Truths
    step n lower none_waits known right there = tt
    step n lower (passes {before = before} {d = d} f more) known right there = (passed (suc n) before d f known right.0, step n lower more known right.1 there)
    step n lower (adds {before = before} {waiting = waiting} {d = d} {c = c} {place = place} {tuple = tuple} {literals = literals} {list = list} fresh a q more) known right there =
        let facts = asked_facts problem valid bounds context sound d.0 c place tuple d.1 literals a q right.0 in
        let asks = demands literals (positions_of (Some place) tuple) in
        let new : EachOf (IsRight problem context) asks = each_map (IsRightBelow problem context d.0) (IsRight problem context) (λ x h. h.1) asks facts.demands_right in
        let all : EachOf (IsRight problem context) (waiting ++ asks) = each_append (IsRight problem context) waiting asks right.1 new in
        let old = weaker n before known in
        let first : IsTrueBelow n d = (lower before (d ∷ waiting) (record { clause = c; literals = literals } ∷ list) (adds fresh a q more) old right there).0 in
        let lows : EachOf (IsTrueBelow n) (waiting ++ asks) = lower (d ∷ before) (waiting ++ asks) list more (first, old) all there.1 in
        let here : IsTrueBelow (suc n) d = λ lt. asked_true problem context value d.0 c place tuple d.1 literals facts (below_true n d.0 lt asks facts.demands_right (each_right (IsTrueBelow n) waiting asks lows)) there.0 in
        let rest : EachOf (IsTrueBelow (suc n)) (waiting ++ asks) = step n lower more (here, known) all there.1 in
        (here, each_left (IsTrueBelow (suc n)) waiting asks rest)

    truths_at : (n : ℕ) → Truths n
    unfolding Truths
    truths_at zero = λ before waiting list h known right there. none_below waiting
    truths_at (suc n) = λ before waiting list h known right there. step n (truths_at n) h known right there

    pub truths : (n : ℕ) (before waiting : List Demand) (list : List InstanceValue) → Adds problem context before waiting list → EachOf (IsTrueBelow n) before → EachOf (IsRight problem context) waiting → EachOf (HasTrue value) list → EachOf (IsTrueBelow n) waiting
    unfolding Truths
    truths n = truths_at n
