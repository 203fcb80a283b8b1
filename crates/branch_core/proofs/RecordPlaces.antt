-- An index of records, one record further, and what it tells of a path.
use Rattle.std.proofs.Common.{◌≡◌, ℕ, ◌+◌, ◌<◌, Bool, true, false, cond, ◌⊎◌, inl, inr, List, Option, Some, IsSome, slice_get, nat_eq, below_more, refl, sym, subst, ap, ◌∙◌}
use Rattle.std.specs.HashMap.{HashMap, get, Updates}
use Rattle.std.proofs.lemmas.Bool.{eqb-true}
use Rattle.branch_core.specs.Paths.{Turns, code}
use Rattle.branch_core.specs.Parts.{RecordValue}
use Rattle.branch_core.specs.RecordIndex.{IndexesFirst}
use Rattle.branch_core.proofs.PathOrder.{codes_injective}

bool_cases : (b : Bool) → (b ≡ true) ⊎ (b ≡ false)
bool_cases true = inl refl
bool_cases false = inr refl

still_some : (b : Bool) (i : ℕ) (o : Option ℕ) → IsSome o → IsSome (cond b (Some i) o)
still_some true i o h = refl
still_some false i o h = h

module _ {S : Type 0} (before after : HashMap ℕ ℕ S) (records : List RecordValue) (i : ℕ) (r : RecordValue) (updates : Updates nat_eq before after (code r.path) (Some i)) (at : slice_get records i ≡ Some r) (first : IndexesFirst i records before) where
  has_more : (k : ℕ) (s : RecordValue) → k < i + 1 → slice_get records k ≡ Some s → IsSome (get nat_eq after (code s.path))
  has_more k s below at_k =
      let P : ℕ → Type 0 = λ k. (s : RecordValue) → slice_get records k ≡ Some s → IsSome (get nat_eq after (code s.path)) in
      let old : (k : ℕ) → k < i → P k = λ k below s at_k. subst (λ (o : Option ℕ). IsSome o) (sym (updates.0 (code s.path))) (still_some (nat_eq (code r.path) (code s.path)) i (get nat_eq before (code s.path)) (first.has k s below at_k)) in
      let new : P i = λ s at_i.
      let same : r ≡ s = cc (at, at_i) in
      let here : get nat_eq after (code s.path) ≡ Some i = ap (λ (z : RecordValue). get nat_eq after (code z.path)) (sym same) ∙ updates.1 in
      subst (λ (o : Option ℕ). IsSome o) (sym here) refl in
      below_more P i old new k below s at_k

  stands_more : (path : Turns) (k : ℕ) → get nat_eq after (code path) ≡ Some k → (s : RecordValue) × (slice_get records k ≡ Some s) × (s.path ≡ path)
  stands_more path k found =
      elim (bool_cases (nat_eq (code r.path) (code path))) as (λ _. (s : RecordValue) × (slice_get records k ≡ Some s) × (s.path ≡ path)) [
        | inl e ↦
            let here : Some i ≡ Some k = ap (λ b. cond b (Some i) (get nat_eq before (code path))) (sym e) ∙ (sym (updates.0 (code path)) ∙ found) in
            let same : i ≡ k = cc here in
            (r, ap (slice_get records) (sym same) ∙ at, codes_injective r.path path (eqb-true (code r.path) (code path) e))
        | inr e ↦
            let here : get nat_eq before (code path) ≡ Some k = ap (λ b. cond b (Some i) (get nat_eq before (code path))) (sym e) ∙ (sym (updates.0 (code path)) ∙ found) in
            first.stands path k here
      ]

  pub index_more : IndexesFirst (i + 1) records after
  index_more = record { has = has_more; stands = stands_more }
