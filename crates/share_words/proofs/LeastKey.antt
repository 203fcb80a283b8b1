-- The least of a list of keys.
use Rattle.std.proofs.Common.{◌≡◌, ◌≢◌, ℕ, ◌+◌, ◌≤◌, ◌<◌, min, nat_eq, Bool, cond, List, [], ◌∷◌, refl, sym, ap, subst, arith, eq-eqb, ne_eqb}
use mathlib.Core.Logic.{dite}
use native.Mathlib.Decide.{ℕ_discrete}
use Rattle.share_words.specs.Counts.{number_count}
use Rattle.share_words.specs.Rule.{no_key, IsLeastKey}
use Rattle.share_words.specs.Lessons.{least_of}

counts_here : (k : ℕ) → ◌≡◌ {A = ℕ} (cond (nat_eq k k) 1 0) 1
counts_here k = ap (λ (b : Bool). cond b 1 0) (eq-eqb k k refl)

counts_not : (k n : ℕ) → k ≢ n → ◌≡◌ {A = ℕ} (cond (nat_eq k n) 1 0) 0
counts_not k n ne = ap (λ (b : Bool). cond b 1 0) (ne_eqb k n ne)

capped : (keys : List ℕ) → least_of keys ≤ no_key
capped [] = omega arith
capped (key ∷ keys) = let h = capped keys in let g : min key (least_of keys) ≤ no_key = omega arith in g

lower : (k : ℕ) (keys : List ℕ) → 0 < number_count k keys → least_of keys ≤ k
lower k [] h = absurd (omega (arith, h))
lower k (key ∷ keys) h =
    let sum_is : 0 < cond (nat_eq k key) 1 0 + number_count k keys = h in
    let g : min key (least_of keys) ≤ k = dite (ℕ_discrete k key) (λ e. omega arith) (λ ne. let n = counts_not k key ne in let l = lower k keys (omega arith) in omega arith) in g

reached : (keys : List ℕ) → least_of keys < no_key → 0 < number_count (least_of keys) keys
reached [] h = absurd (let g : no_key < no_key = h in omega (arith, g))
reached (key ∷ keys) h =
    let g : min key (least_of keys) < no_key = h in
    dite (ℕ_discrete (min key (least_of keys)) key)
    (λ e. let P : ℕ → Type 0 = λ z. 0 < cond (nat_eq z key) 1 0 + number_count z keys in subst P (sym e) (let c = counts_here key in omega arith))
    (λ ne.
    let is : min key (least_of keys) ≡ least_of keys = omega arith in
    let r = reached keys (omega arith) in
    let P : ℕ → Type 0 = λ z. 0 < cond (nat_eq z key) 1 0 + number_count z keys in subst P (sym is) (omega arith))

-- The least word is that of the list where it is the least of the keys that stand there.
pub is_least_of : (word : ℕ) (keys : List ℕ) → IsLeastKey word (λ key. number_count key keys) → word ≡ least_of keys
is_least_of word keys least =
    let c = least.capped in
    let d = capped keys in
    let down : word ≤ least_of keys = dite (ℕ_discrete (least_of keys) no_key) (λ e. omega arith) (λ ne. least.lower (least_of keys) (reached keys (omega arith))) in
    let up : least_of keys ≤ word = dite (ℕ_discrete word no_key) (λ e. omega arith) (λ ne. lower word keys (least.reached (omega arith))) in
    omega arith
