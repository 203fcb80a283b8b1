-- The first of the unifiers that were found, as one after another is looked at.
use Rattle.std.proofs.Common.{◌≡◌, ◌≤◌, ◌+◌, ℕ, zero, suc, ◌<◌, inl, inr, List, [], ◌∷◌, ◌++◌, length, get_or, take, slice_get, Option, Some, None, refl, sym, subst, ap, ◌∙◌, arith}
use Rattle.std.specs.Prelude.{IfSome}
use Rattle.std.specs.List.{Contains}
use Rattle.std.proofs.lemmas.Bool.{cases_lt}
use Rattle.std.proofs.lemmas.Option.{same_Some, none-some, slice_get_within}
use Rattle.std.proofs.lemmas.List.{take_more, take_all}
use Rattle.std.proofs.lemmas.List.Elements.{Contains-push_cases}
use Rattle.me_terms.specs.Substitutions.{Family}
use Rattle.me_terms.specs.Values.{ProblemValue, ClauseValue}
use Rattle.me_terms.specs.Context.{Context}
use Rattle.me_terms.specs.Productive.{IsProductiveUnifier}
use Rattle.me_terms.specs.Close.{HasClose}
use Rattle.me_terms.specs.Assert.{HasAssert}
use Rattle.me_terms.specs.Next.{Exhausted, IsNext}
use Rattle.me_terms.specs.Order.{Precedes, split_key}
use Rattle.me_terms.specs.declared.bounds.Bounds.{Bounds}
use Rattle.me_laws_existence.proofs.Best.{precedes_itself, precedes_transitive, precedes_total}
use Rattle.candidate_keys.specs.declared.unifier_key.Fit.{Fit}
use Rattle.candidate_keys.specs.Keys.{UnifierKeyValue, code_by, unifier_code}
use Rattle.candidate_store.specs.Kept.{IsKeyOf, FrameValue}
use Rattle.candidate_store.specs.Firsts.{FoundValue, IsBelow, IsFound, IsBest, IsMet, AreMet, AreAllMet, MeetsMore, HaveAll, IsFirstOfTwo, IsFirstFound}

code_before_unfit : (fit : Option Fit) (c : ℕ) (tuple : List ℕ) → Precedes (code_by fit c tuple) (1 ∷ c ∷ tuple)
code_before_unfit (Some fit) c tuple = inl (omega arith)
code_before_unfit None c tuple = precedes_itself (1 ∷ c ∷ tuple)

one_some : (o : Option FoundValue) (b : FoundValue) (P : FoundValue → Type 0) → o ≡ Some b → IfSome o P → P b
one_some o b P is h = let Q : Option FoundValue → Type 0 = λ z. IfSome z P in subst Q is h

-- a list of one
at_one : (key k : UnifierKeyValue) (i : ℕ) → i < length (key ∷ []) → get_or (key ∷ []) i k ≡ k → key ≡ k
at_one key k zero lt e = e
at_one key k (suc i) lt e = absurd (omega arith)

one_of : (key k : UnifierKeyValue) → Contains (key ∷ []) k → key ≡ k
one_of key k h = at_one key k h.0 h.1 h.2

module _ (problem : ProblemValue) (bounds : Bounds) (context : Context) where
  -- a key comes at or before what it is of
  pub key_below : (c : ℕ) (tuple : List ℕ) (key : UnifierKeyValue) → IsKeyOf problem bounds context c tuple key → IsBelow problem bounds context (unifier_code key) c tuple
  key_below c tuple key h = record {
    splits = h.first;
    unfit = (let a = h.of_clause in let b = h.of_tuple in let P : ℕ × List ℕ → Type 0 = λ z. Precedes (unifier_code key) (1 ∷ z.0 ∷ z.1) in subst P (λ i. (a i, b i)) (code_before_unfit key.fit key.clause key.tuple));
  }

  pub below_before : (a b : List ℕ) (c : ℕ) (tuple : List ℕ) → Precedes a b → IsBelow problem bounds context b c tuple → IsBelow problem bounds context a c tuple
  below_before a b c tuple first h = record {
    splits = λ place size l split. precedes_transitive a b (0 ∷ split_key c tuple place size l) first (h.splits place size l split);
    unfit = precedes_transitive a b (1 ∷ c ∷ tuple) first h.unfit;
  }

  met_by : (best found : Option FoundValue) (c : ℕ) (tuple : List ℕ) → IfSome best (λ b. (f : FoundValue) × (found ≡ Some f) × Precedes (unifier_code f.key) (unifier_code b.key)) → IsMet problem bounds context best c tuple → IsMet problem bounds context found c tuple
  met_by best found c tuple first met =
      let k = one_some best met.0 (λ b. (f : FoundValue) × (found ≡ Some f) × Precedes (unifier_code f.key) (unifier_code b.key)) met.1 first in
      (k.0, k.1, below_before (unifier_code k.0.key) (unifier_code met.0.key) c tuple k.2 met.2)

  pub best_first : (best next found : Option FoundValue) → IsBest problem bounds context best → IsBest problem bounds context next → IsFirstFound best next found → IsBest problem bounds context found
  best_first best next found f g first =
      let P : Option FoundValue → Type 0 = λ z. IsBest problem bounds context z in
      elim first.one as (λ _. IsBest problem bounds context found) [ inl old ↦ subst P (sym old) f | inr new ↦ subst P (sym new) g ]

  pub more_first : (best next found : Option FoundValue) → IsFirstFound best next found → MeetsMore problem bounds context best found
  more_first best next found first c tuple met = met_by best found c tuple first.old met

  pub met_first : (key : UnifierKeyValue) (best next found : Option FoundValue) → ((clause : ClauseValue) (f : Family) → IsProductiveUnifier problem context key.clause key.tuple clause f → IsMet problem bounds context next key.clause key.tuple) → IsFirstFound best next found → AreMet problem bounds context (key ∷ []) found
  met_first key best next found met first c tuple clause f k productive has of =
      let same = one_of key k has in
      let P : UnifierKeyValue → Type 0 = λ z. IsKeyOf problem bounds context c tuple z in
      let mine = subst P (sym same) of in
      let a = mine.of_clause in
      let b = mine.of_tuple in
      let Q : ℕ × List ℕ → Type 0 = λ z. IsProductiveUnifier problem context z.0 z.1 clause f in
      let R : ℕ × List ℕ → Type 0 = λ z. IsMet problem bounds context next z.0 z.1 in
      let there = met clause f (subst Q (λ i. (sym a i, sym b i)) productive) in
      met_by next found c tuple first.new (subst R (λ i. (a i, b i)) there)

  -- the one that was found before comes before the key too
  pub met_before : (key : UnifierKeyValue) (best : Option FoundValue) (found : FoundValue) → best ≡ Some found → Precedes (unifier_code found.key) (unifier_code key) → AreMet problem bounds context (key ∷ []) best
  met_before key best found is first c tuple clause f k productive has of =
      let P : UnifierKeyValue → Type 0 = λ z. IsKeyOf problem bounds context c tuple z in
      let mine = subst P (sym (one_of key k has)) of in
      (found, is, below_before (unifier_code found.key) (unifier_code key) c tuple first (key_below c tuple key mine))

  -- ---- one key after another
  pub met_none : (best : Option FoundValue) → AreMet problem bounds context [] best
  met_none best c tuple clause f k productive has of = let lt = has.1 in absurd (omega (arith, lt))

  pub met_still : (keys : List UnifierKeyValue) (best better : Option FoundValue) → MeetsMore problem bounds context best better → AreMet problem bounds context keys best → AreMet problem bounds context keys better
  met_still keys best better more h c tuple clause f k productive has of = more c tuple (h c tuple clause f k productive has of)

  pub met_more : (keys : List UnifierKeyValue) (i : ℕ) (key : UnifierKeyValue) (best better : Option FoundValue) → i < length keys → key ≡ get_or keys i key → MeetsMore problem bounds context best better → AreMet problem bounds context (take i keys) best → AreMet problem bounds context (key ∷ []) better → AreMet problem bounds context (take (i + 1) keys) better
  met_more keys i key best better lt at more h new c tuple clause f k productive has of =
      let P : List UnifierKeyValue → Type 0 = λ z. Contains z k in
      let Q : UnifierKeyValue → Type 0 = λ z. Contains (take i keys ++ z ∷ []) k in
      elim (Contains-push_cases (take i keys) key k (subst Q (sym at) (subst P (take_more keys i key lt) has))) as (λ _. IsMet problem bounds context better c tuple) [
        | inl old ↦ more c tuple (h c tuple clause f k productive old of)
        | inr same ↦ new c tuple clause f k productive (zero, omega arith, same) of
      ]

  pub met_all : (keys : List UnifierKeyValue) (n : ℕ) (best : Option FoundValue) → length keys ≤ n → AreMet problem bounds context (take n keys) best → AreMet problem bounds context keys best
  met_all keys n best all h = let P : List UnifierKeyValue → Type 0 = λ z. AreMet problem bounds context z best in subst P (take_all n keys all) h

  pub meets_itself : (best : Option FoundValue) → MeetsMore problem bounds context best best
  meets_itself best c tuple h = h

  pub meets_on : (a b d : Option FoundValue) → MeetsMore problem bounds context a b → MeetsMore problem bounds context b d → MeetsMore problem bounds context a d
  meets_on a b d f g c tuple h = g c tuple (f c tuple h)

  -- ---- one frame after another
  abbrev pub FirstMet : List FrameValue → ℕ → Option FoundValue → Type 0
  FirstMet frames m best = (n : ℕ) (f : FrameValue) → n < m → slice_get frames n ≡ Some f → AreMet problem bounds context f.unifiers best

  pub frames_none : (frames : List FrameValue) (best : Option FoundValue) → FirstMet frames 0 best
  frames_none frames best n f lt at = absurd (omega (arith, lt))

  pub frames_met : (frames : List FrameValue) (m : ℕ) (frame : FrameValue) (best better : Option FoundValue) → slice_get frames m ≡ Some frame → MeetsMore problem bounds context best better → FirstMet frames m best → AreMet problem bounds context frame.unifiers better → FirstMet frames (m + 1) better
  frames_met frames m frame best better at more h new n f lt there =
      elim (cases_lt n m) as (λ _. AreMet problem bounds context f.unifiers better) [
        | inl less ↦ met_still f.unifiers best better more (h n f less there)
        | inr ge ↦
            (let same : n ≡ m = omega (arith, ge, lt) in
            let P : ℕ → Type 0 = λ z. slice_get frames z ≡ Some f in
            let Q : FrameValue → Type 0 = λ z. AreMet problem bounds context z.unifiers better in
            subst Q (same_Some frame f (sym at ∙ subst P same there)) new)
      ]

  pub frames_all : (frames : List FrameValue) (m : ℕ) (best : Option FoundValue) → length frames ≤ m → FirstMet frames m best → AreAllMet problem bounds context frames best
  frames_all frames m best all h n f at = h n f (let lt = slice_get_within frames n f at in omega (arith, lt, all)) at

  -- ---- in the end
  pub every_met : (frames : List FrameValue) (keys : List UnifierKeyValue) (best : Option FoundValue) → HaveAll problem bounds context frames keys → AreAllMet problem bounds context frames best → AreMet problem bounds context keys best → (c : ℕ) (tuple : List ℕ) (clause : ClauseValue) (f : Family) → IsProductiveUnifier problem context c tuple clause f → IsMet problem bounds context best c tuple
  every_met frames keys best all by_frames by_keys c tuple clause f productive =
      elim (all c tuple clause f productive) as (λ _. IsMet problem bounds context best c tuple) [
        | inl k ↦ by_frames k.0 k.1 k.3 c tuple clause f k.2 productive k.4 k.5
        | inr k ↦ by_keys c tuple clause f k.0 productive k.1 k.2
      ]

  module _ (no_close : ¬ HasClose problem context) (no_assert : ¬ HasAssert problem bounds context) (best : Option FoundValue) (right : IsBest problem bounds context best) (met : (c : ℕ) (tuple : List ℕ) (clause : ClauseValue) (f : Family) → IsProductiveUnifier problem context c tuple clause f → IsMet problem bounds context best c tuple) where
    pub best_is_next : (found : FoundValue) → best ≡ Some found → IsNext problem bounds context found.step
    best_is_next found is =
        let P : Option FoundValue → Type 0 = λ z. IsBest problem bounds context z in
        let mine : IsFound problem bounds context found = subst P is right in
        mine (λ c tuple clause f productive.
        let k = met c tuple clause f productive in
        let Q : FoundValue → Type 0 = λ z. IsBelow problem bounds context (unifier_code z.key) c tuple in
        subst Q (same_Some k.0 found (sym k.1 ∙ is)) k.2)

    pub none_is_next : best ≡ None → IsNext problem bounds context Exhausted
    none_is_next is =
        (no_close, no_assert, λ h. let k = met h.0 h.1 h.2 h.3 h.4 in none-some k.0 (sym is ∙ k.1))

-- ---- the first of some
abbrev code_of : FoundValue → List ℕ
code_of f = unifier_code f.key

pub first_kept : (best : Option FoundValue) → IsFirstFound best None best
first_kept None = record { one = inl refl; old = tt; new = tt }
first_kept (Some b) = record { one = inl refl; old = (b, refl, precedes_itself (code_of b)); new = tt }

pub first_only : (f : FoundValue) → IsFirstFound None (Some f) (Some f)
first_only f = record { one = inr refl; old = tt; new = (f, refl, precedes_itself (code_of f)) }

pub first_two : (best next f : FoundValue) → IsFirstOfTwo best next f → IsFirstFound (Some best) (Some next) (Some f)
first_two best next f (inl h) =
    let same = h.0 in
    let P : FoundValue → Type 0 = λ z. Precedes (code_of z) (code_of best) in
    let Q : FoundValue → Type 0 = λ z. Precedes (code_of z) (code_of next) in
    record {
      one = inl (ap (λ (z : FoundValue). Some z) same);
      old = (f, refl, subst P (sym same) (precedes_itself (code_of best)));
      new = (f, refl, subst Q (sym same) h.1);
    }
first_two best next f (inr h) =
    let same = h.0 in
    let P : FoundValue → Type 0 = λ z. Precedes (code_of z) (code_of best) in
    let Q : FoundValue → Type 0 = λ z. Precedes (code_of z) (code_of next) in
    let after : Precedes (code_of next) (code_of best) = elim (precedes_total (code_of best) (code_of next)) as (λ _. Precedes (code_of next) (code_of best)) [ inl before ↦ absurd (h.1 before) | inr later ↦ later ] in
    record {
      one = inr (ap (λ (z : FoundValue). Some z) same);
      old = (f, refl, subst P (sym same) after);
      new = (f, refl, subst Q (sym same) (precedes_itself (code_of next)));
    }
