-- Keys among what was looked at.
use Rattle.std.proofs.Common.{◌≡◌, ℕ, ◌+◌, ◌<◌, ◌≤◌, inl, inr, Bool, true, false, nat_le, List, [], ◌∷◌, ◌++◌, Some, None, refl, sym, subst, ap, ◌∙◌, arith}
use Rattle.std.proofs.lemmas.Bool.Decides.{leb_tells}
use Rattle.std.specs.Prelude.{if◌then◌else◌}
use Rattle.branch_core.specs.Hooks.{after_look}
use Rattle.branch_core.specs.Whole.{IsIn}
use Rattle.branch_core.proofs.Orderly.{none_in}
use Rattle.share_words.specs.Counts.{number_count}
use Rattle.share_words.specs.Rule.{no_key, WereFound}
use Rattle.share_words.specs.Seats.{WorkerSeatValue}
use Rattle.steal_pool.specs.Ledger.{told_of, history_of}
use Rattle.steal_pool.proofs.Lists.{in_here, in_later, in_split, in_one, counted_number, number_counted}

abbrev step : ℕ → List ℕ → List ℕ
step found rest = if nat_le no_key found then rest else found ∷ rest

step_append : (found : ℕ) (rest ys : List ℕ) → step found rest ++ ys ≡ step found (rest ++ ys)
step_append found rest ys = go (nat_le no_key found)
  where
    go : (b : Bool) → (if b then rest else found ∷ rest) ++ ys ≡ (if b then rest ++ ys else found ∷ (rest ++ ys))
    go true = refl
    go false = refl

pub told_append : (xs ys : List ℕ) → told_of (xs ++ ys) ≡ told_of xs ++ told_of ys
told_append [] ys = refl
told_append (x ∷ xs) ys = ap (step x) (told_append xs ys) ∙ sym (step_append x (told_of xs) (told_of ys))

no_more : (found : ℕ) → no_key ≤ found → nat_le no_key found ≡ true
no_more found h = elim (leb_tells no_key found) as (λ _. nat_le no_key found ≡ true) [ inl x ↦ x.0 | inr x ↦ absurd (omega (arith, x.1, h)) ]

one_more : (found : ℕ) → found < no_key → nat_le no_key found ≡ false
one_more found h = elim (leb_tells no_key found) as (λ _. nat_le no_key found ≡ false) [ inl x ↦ absurd (omega (arith, x.1, h)) | inr x ↦ x.0 ]

-- What a look that found a key tells, and what one that found none.
module _ (old new : WorkerSeatValue) (found : ℕ) (is : new ≡ record old { looked = old.looked ++ found ∷ [] }) where
  looked : told_of new.looked ≡ told_of old.looked ++ step found []
  looked = ap (λ (s : WorkerSeatValue). told_of s.looked) is ∙ told_append old.looked (found ∷ [])

  told_key : found < no_key → told_of new.looked ≡ told_of old.looked ++ found ∷ []
  told_key less = looked ∙ ap (λ (b : Bool). told_of old.looked ++ (if b then [] else found ∷ [])) (one_more found less)

  told_none : no_key ≤ found → told_of new.looked ≡ told_of old.looked ++ []
  told_none more = looked ∙ ap (λ (b : Bool). told_of old.looked ++ (if b then [] else found ∷ [])) (no_more found more)

  pub history_key : found < no_key → history_of new ≡ after_look (history_of old) (Some found)
  history_key less = λ i. record { given = (is i).offered; told = told_key less i; posted = (is i).posted }

  pub history_none : no_key ≤ found → history_of new ≡ after_look (history_of old) None
  history_none more = λ i. record { given = (is i).offered; told = told_none more i; posted = (is i).posted }

-- A key that was told was looked at, and is a key.
told_looked : (k : ℕ) (looked : List ℕ) → IsIn k (told_of looked) → IsIn k looked × (k < no_key)
told_looked k [] h = absurd (none_in k h.0 h.1)
told_looked k (x ∷ looked) h =
    let P : Bool → Type 0 = λ b. IsIn k (if b then told_of looked else x ∷ told_of looked) in
    elim (leb_tells no_key x) as (λ _. IsIn k (x ∷ looked) × (k < no_key)) [
      | inl big ↦
          let rest : IsIn k (told_of looked) = subst P big.0 h in
          let t = told_looked k looked rest in (in_later x k looked t.0, t.1)
      | inr small ↦
          let all : IsIn k (x ∷ told_of looked) = subst P small.0 h in
          elim (in_split (x ∷ []) (told_of looked) k all) as (λ _. IsIn k (x ∷ looked) × (k < no_key)) [
            | inl here ↦
                let same = in_one x k here in (subst (λ n. IsIn n (x ∷ looked)) (sym same) (in_here x looked), subst (λ n. n < no_key) (sym same) small.1)
            | inr later ↦ let t = told_looked k looked later in (in_later x k looked t.0, t.1)
          ]
    ]

pub told_posted : (looked posted : List ℕ) → WereFound (λ k. number_count k looked) (λ k. number_count k posted) → (k : ℕ) → IsIn k (told_of looked) → IsIn k posted
told_posted looked posted found k h =
    let t = told_looked k looked h in counted_number k posted (found k t.1 (number_counted k looked t.0))
