-- The demands of an instance are less work than the one that added it.
use Rattle.std.proofs.Common.{◌≡◌, ℕ, zero, suc, ◌+◌, ◌<◌, ◌≤◌, ◌⊎◌, inl, inr, List, [], ◌∷◌, ◌++◌, length, slice_get, Option, Some, None, ap, arith}
use Rattle.std.proofs.lemmas.Option.{same_Some}
use Rattle.me_terms.specs.Values.{ClauseValue}
use Rattle.me_terms.specs.LeafList.{Demand, demands}
use Rattle.me_terms.specs.declared.atom.Literal.{Literal}
use Rattle.me_laws.proofs.Lists.{EachOf}
use Rattle.ground_refutation.specs.Work.{longest, times, work, work_all}

abbrev pub IsBelow : ℕ → Demand → Type 0
IsBelow k d = d.0 < k

pub work_some : (b k : ℕ) → 0 < work b k
work_some b zero = omega arith
work_some b (suc k) = omega arith

less_or_equal : (j k : ℕ) → j ≤ suc k → (j ≤ k) ⊎ (j ≡ suc k)
less_or_equal zero k h = inl (omega arith)
less_or_equal (suc j) zero h = inr (omega (arith, h))
less_or_equal (suc j) (suc k) h =
    elim (less_or_equal j k (omega (arith, h))) as (λ _. (suc j ≤ suc k) ⊎ (suc j ≡ suc (suc k))) [ inl le ↦ inl (omega (arith, le)) | inr e ↦ inr (ap suc e) ]

work_rises : (b j k : ℕ) → j ≤ k → work b j ≤ work b k
work_rises b zero zero h = omega arith
work_rises b (suc j) zero h = absurd (omega (arith, h))
work_rises b j (suc k) h =
    elim (less_or_equal j k h) as (λ _. work b j ≤ work b (suc k)) [
      | inl le ↦ let below = work_rises b j k le in omega (arith, below)
      | inr e ↦ let same = ap (work b) e in omega (arith, same)
    ]

times_rises : (m n w : ℕ) → m ≤ n → times m w ≤ times n w
times_rises zero n w h = omega arith
times_rises (suc m) zero w h = absurd (omega (arith, h))
times_rises (suc m) (suc n) w h = let later = times_rises m n w (omega (arith, h)) in omega (arith, later)

all_work : (b k : ℕ) (ds : List Demand) → EachOf (IsBelow (suc k)) ds → work_all b ds ≤ times (length ds) (work b k)
all_work b k [] h = omega arith
all_work b k (d ∷ ds) h =
    let lt = h.0 in
    let first = work_rises b d.0 k (omega (arith, lt)) in
    let later = all_work b k ds h.1 in
    omega (arith, first, later)

pub work_falls : (b k : ℕ) (ds : List Demand) → EachOf (IsBelow k) ds → length ds ≤ b → work_all b ds < work b k
work_falls b zero [] h le = omega arith
work_falls b zero (d ∷ ds) h le = let lt = h.0 in absurd (omega (arith, lt))
work_falls b (suc k) ds h le =
    let whole = all_work b k ds h in
    let most = times_rises (length ds) b (work b k) le in
    omega (arith, whole, most)

pub work_append : (b : ℕ) (xs ys : List Demand) → work_all b (xs ++ ys) ≡ work_all b xs + work_all b ys
work_append b [] ys = omega arith
work_append b (x ∷ xs) ys = let later = work_append b xs ys in omega (arith, later)

pub few_demands : (ls : List Literal) (ks : List (Option ℕ)) → length (demands ls ks) ≤ length ls
few_demands [] ks = omega arith
few_demands (l ∷ ls) [] = omega arith
few_demands (l ∷ ls) (None ∷ ks) = let later = few_demands ls ks in omega (arith, later)
few_demands (l ∷ ls) (Some k ∷ ks) = let later = few_demands ls ks in omega (arith, later)

pub is_long : (clauses : List ClauseValue) (c : ℕ) (clause : ClauseValue) → slice_get clauses c ≡ Some clause → length clause.literals ≤ longest clauses
is_long [] c clause h = cc
is_long (x ∷ xs) zero clause h =
    let same = ap (λ (z : ClauseValue). length z.literals) (same_Some x clause h) in omega (arith, same)
is_long (x ∷ xs) (suc c) clause h = let later = is_long xs c clause h in omega (arith, later)
