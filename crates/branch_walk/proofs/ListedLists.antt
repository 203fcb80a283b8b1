-- Lists within the list bound, and those that are joined.
use Rattle.std.proofs.Common.{◌≡◌, ℕ, ◌<◌, ◌≤◌, true, false, inl, inr, List, ◌∷◌, sym, subst, ap, ◌∙◌, arith, nat_le}
use Rattle.std.proofs.lemmas.Bool.Decides.{leb_tells}
use Rattle.me_terms.specs.Measures.{list_weight}
use Rattle.me_terms.specs.Values.{ProblemValue, InstanceValue}
use Rattle.me_terms.specs.Context.{Context}
use Rattle.me_terms.specs.FirstOccurrences.{first_occurrences, joined}
use Rattle.me_terms.specs.LeafList.{IsLeafList}
use Rattle.me_terms.specs.Next.{Close, IsNext}
use Rattle.me_terms.specs.Outcome.{TreeOutcome, HasOutcome, closes}
use Rattle.me_terms.specs.Outcome as outcome
use Rattle.me_terms.specs.declared.bounds.Bounds.{Bounds}
use Rattle.me_laws.proofs.OutcomeDetermined.{outcome_unique}
use Rattle.branch_core.specs.Parts.{Whole, TooHeavy, listed}
use Rattle.branch_core.specs.SearchTree.{EachOnce}
use Rattle.branch_core.proofs.GatheredLists.{le_true}
use Rattle.instance_lists.specs.Merged.{merged}
use Rattle.instance_lists.proofs.FirstOccurrences.{first-again, weight-left, weight-right}
use Rattle.instance_lists.proofs.Joining.{merged_is_joined}

le_false : (a b : ℕ) → b < a → nat_le a b ≡ false
le_false a b h = elim (leb_tells a b) as (λ _. nat_le a b ≡ false) [ inl x ↦ absurd (omega (arith, x.1, h)) | inr x ↦ x.0 ]

pub light_is_whole : (n : ℕ) (list : List InstanceValue) → list_weight list ≤ n → Whole list ≡ listed n list
light_is_whole n list h = let light : nat_le (list_weight list) n ≡ true = le_true (list_weight list) n h in simp light

pub heavy_is_heavy : (n : ℕ) (list : List InstanceValue) → n < list_weight list → TooHeavy ≡ listed n list
heavy_is_heavy n list h = let heavy : nat_le (list_weight list) n ≡ false = le_false (list_weight list) n h in simp heavy

pub whole_is : (n : ℕ) (l list : List InstanceValue) → Whole l ≡ listed n list → l ≡ list
whole_is n l list e =
    elim (leb_tells (list_weight list) n) as (λ _. l ≡ list) [
      | inl x ↦ (let is : Whole l ≡ Whole list = e ∙ sym (light_is_whole n list x.1) in cc is)
      | inr x ↦ (let is : Whole l ≡ TooHeavy = e ∙ sym (heavy_is_heavy n list x.1) in cc is)
    ]

pub heavy_is : (n : ℕ) (list : List InstanceValue) → TooHeavy ≡ listed n list → n < list_weight list
heavy_is n list e =
    elim (leb_tells (list_weight list) n) as (λ _. n < list_weight list) [
      | inl x ↦ (let is : TooHeavy ≡ Whole list = e ∙ sym (light_is_whole n list x.1) in cc is)
      | inr x ↦ x.1
    ]

-- a list that is too heavy stays so with more before or behind it
pub heavy_before : (n : ℕ) (list more : List InstanceValue) → EachOnce list → TooHeavy ≡ listed n list → TooHeavy ≡ listed n (joined list more)
heavy_before n list more once e =
    let P : List InstanceValue → Type 0 = λ ls. list_weight ls ≤ list_weight (joined list more) in
    let le = subst P once (weight-left list more) in
    let lt = heavy_is n list e in
    heavy_is_heavy n (joined list more) (omega (arith, le, lt))

pub heavy_behind : (n : ℕ) (list more : List InstanceValue) → EachOnce more → TooHeavy ≡ listed n more → TooHeavy ≡ listed n (joined list more)
heavy_behind n list more once e =
    let P : List InstanceValue → Type 0 = λ ls. list_weight ls ≤ list_weight (joined list more) in
    let le = subst P once (weight-right list more) in
    let lt = heavy_is n more e in
    heavy_is_heavy n (joined list more) (omega (arith, le, lt))

-- ---- a list that is merged with the one that follows it
merged_behind : (n : ℕ) (list more after : List InstanceValue) → EachOnce list → Whole more ≡ listed n after → merged list more ≡ joined list after
merged_behind n list more after once is = merged_is_joined list more once ∙ ap (joined list) (whole_is n more after is)

pub whole_behind : (n : ℕ) (list more after new : List InstanceValue) → EachOnce list → Whole more ≡ listed n after → new ≡ merged list more → list_weight new ≤ n → Whole new ≡ listed n (joined list after)
whole_behind n list more after new once is made light =
    light_is_whole n new light ∙ ap (listed n) (made ∙ merged_behind n list more after once is)

pub merged_heavy : (n : ℕ) (list more after : List InstanceValue) → EachOnce list → Whole more ≡ listed n after → n < list_weight (merged list more) → TooHeavy ≡ listed n (joined list after)
merged_heavy n list more after once is weighs =
    heavy_is_heavy n (merged list more) weighs ∙ ap (listed n) (merged_behind n list more after once is)

-- ---- the list of a closed leaf
pub leaf_once : {problem : ProblemValue} {context : Context} {c : ℕ} {tuple : List ℕ} (list : List InstanceValue) → IsLeafList problem context c tuple list → EachOnce list
leaf_once list leaf =
    let instances : List InstanceValue = record { clause = _; literals = leaf.0 } ∷ leaf.1 in
    ap first_occurrences leaf.4 ∙ (first-again instances ∙ sym leaf.4)

pub leaf_list_unique : (problem : ProblemValue) (bounds : Bounds) (context : Context) (c : ℕ) (tuple : List ℕ) → IsNext problem bounds context (Close c tuple) → (list other : List InstanceValue) → IsLeafList problem context c tuple list → IsLeafList problem context c tuple other → list ≡ other
leaf_list_unique problem bounds context c tuple next list other g h =
    let first : HasOutcome problem bounds context (outcome.Closed list) = closes next g in
    let second : HasOutcome problem bounds context (outcome.Closed other) = closes next h in
    let same : outcome.Closed list ≡ outcome.Closed other = outcome_unique first (outcome.Closed other) second in
    cc same
