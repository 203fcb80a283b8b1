-- Codes are injective, and keys order leaves.
use Rattle.std.proofs.Common.{◌≡◌, ℕ, zero, suc, ◌+◌, ◌/◌, ◌^◌, ◌%◌, nat_eq, ◌↔◌, pow-add, ◌<◌, ◌≤◌, ◌⊎◌, inl, inr, Bool, true, false, List, [], ◌∷◌, ◌++◌, length, append_assoc, append-nil, Some, refl, sym, subst, ap, ◌∙◌, arith}
use Rattle.std.proofs.Math.Nat.{pow-le-pow_right, div-div-eq-div-mul, div-lt_iff_lt-mul, one-le-pow, div-one}
use Rattle.me_terms.specs.Outcome.{TreeOutcome}
use Rattle.branch_core.specs.Paths.{Turns, turns_of, code_from, code, key_bits, key, IsLeftOf}
use Rattle.branch_core.specs.PathLaws.{double, code_from_above}
use Rattle.branch_core.specs.PathOrder.{CodesAreInjective, KeysOrderLeaves}
use Rattle.branch_core.specs.SearchTree.{SearchTree, Leaf, Node, subtree}

-- ---- numbers of turns
pub bits_below : (turns : Turns) → code_from 0 turns < 2 ^ length turns
bits_below [] = omega arith
bits_below (false ∷ turns) = omega (arith, bits_below turns, double (length turns))
bits_below (true ∷ turns) =
    let low = code_from_above 1 turns in
    let goal : code_from 1 turns < 2 ^ suc (length turns) = omega (arith, low, bits_below turns, double (length turns)) in goal

pub same_bits : (s t : Turns) → length s ≡ length t → code_from 0 s ≡ code_from 0 t → s ≡ t
same_bits [] [] e h = refl
same_bits [] (b ∷ t) e h = absurd (omega (arith, e))
same_bits (a ∷ s) [] e h = absurd (omega (arith, e))
same_bits (false ∷ s) (false ∷ t) e h = λ i. false ∷ same_bits s t (omega (arith, e)) h i
same_bits (true ∷ s) (true ∷ t) e h =
    let less : length s ≡ length t = omega (arith, e) in
    let one : code_from 1 s ≡ code_from 1 t = h in
    λ i. true ∷ same_bits s t less (omega (arith, one, code_from_above 1 s, code_from_above 1 t, ap (λ n. 2 ^ n) less)) i
same_bits (false ∷ s) (true ∷ t) e h =
    let less : length s ≡ length t = omega (arith, e) in
    let one : code_from 0 s ≡ code_from 1 t = h in
    absurd (omega (arith, one, code_from_above 1 t, bits_below s, ap (λ n. 2 ^ n) less))
same_bits (true ∷ s) (false ∷ t) e h =
    let less : length s ≡ length t = omega (arith, e) in
    let one : code_from 1 s ≡ code_from 0 t = h in
    absurd (omega (arith, one, code_from_above 1 s, bits_below t, ap (λ n. 2 ^ n) less))

not_shorter : (s t : Turns) → length s < length t → ¬ (code s ≡ code t)
not_shorter s t h e =
    let more : 2 ^ suc (length s) ≤ 2 ^ length t = pow-le-pow_right (omega arith) h in
    omega (arith, e, more, code_from_above 1 s, code_from_above 1 t, bits_below s, double (length s))

compared : (m n : ℕ) → (m < n) ⊎ ((m ≡ n) ⊎ (n < m))
compared zero zero = inr (inl refl)
compared zero (suc n) = inl (omega arith)
compared (suc m) zero = inr (inr (omega arith))
compared (suc m) (suc n) =
    elim (compared m n) as (λ _. (suc m < suc n) ⊎ ((suc m ≡ suc n) ⊎ (suc n < suc m))) [
      | inl h ↦ inl (omega (arith, h))
      | inr r ↦ elim r as (λ _. (suc m < suc n) ⊎ ((suc m ≡ suc n) ⊎ (suc n < suc m))) [ inl e ↦ inr (inl (ap suc e)) | inr h ↦ inr (inr (omega (arith, h))) ]
    ]

pub codes_injective : CodesAreInjective
codes_injective s t e =
    elim (compared (length s) (length t)) as (λ _. s ≡ t) [
      | inl h ↦ absurd (not_shorter s t h e)
      | inr r ↦ elim r as (λ _. s ≡ t) [
        | inl same ↦ same_bits s t same (omega (arith, e, code_from_above 1 s, code_from_above 1 t, ap (λ n. 2 ^ n) same))
        | inr h ↦ absurd (not_shorter t s h (sym e))
      ]
    ]

-- ---- keys
pub key_below : (n : ℕ) (turns : Turns) → key_bits n turns < 2 ^ n
key_below zero turns = omega arith
key_below (suc n) [] = omega (arith, key_below n [], double n)
key_below (suc n) (false ∷ turns) = omega (arith, key_below n turns, double n)
key_below (suc n) (true ∷ turns) = omega (arith, key_below n turns, double n)

key_order : (n : ℕ) (s t : Turns) → key_bits n s < key_bits n t → IsLeftOf s t ⊎ ((rest : Turns) × (t ≡ s ++ rest))
key_order zero s t h = absurd (omega (arith, h))
key_order (suc n) [] t h = inr (t, refl)
key_order (suc n) (a ∷ s) [] h = absurd (omega (arith, h))
key_order (suc n) (false ∷ s) (true ∷ t) h = inl tt
key_order (suc n) (false ∷ s) (false ∷ t) h =
    elim (key_order n s t (omega (arith, h))) as (λ _. IsLeftOf s t ⊎ ((rest : Turns) × (false ∷ t ≡ false ∷ s ++ rest))) [ inl x ↦ inl x | inr y ↦ inr (y.0, λ i. false ∷ y.1 i) ]
key_order (suc n) (true ∷ s) (true ∷ t) h =
    elim (key_order n s t (omega (arith, h))) as (λ _. IsLeftOf s t ⊎ ((rest : Turns) × (true ∷ t ≡ true ∷ s ++ rest))) [ inl x ↦ inl x | inr y ↦ inr (y.0, λ i. true ∷ y.1 i) ]
key_order (suc n) (true ∷ s) (false ∷ t) h = absurd (omega (arith, h, key_below n t))

leaf_ends : (search : SearchTree) (leaf rest : Turns) (o : TreeOutcome) (below : SearchTree) → subtree search leaf ≡ Some (Leaf o) → subtree search (leaf ++ rest) ≡ Some below → rest ≡ []
leaf_ends search leaf [] o below g h = refl
leaf_ends search [] (b ∷ rest) o below g h =
    let same : search ≡ Leaf o = cc g in
    let gone : subtree (Leaf o) (b ∷ rest) ≡ Some below = subst (λ (z : SearchTree). subtree z (b ∷ rest) ≡ Some below) same h in cc gone
leaf_ends (Leaf p) (t ∷ leaf) (b ∷ rest) o below g h = cc g
leaf_ends (Node l r) (false ∷ leaf) (b ∷ rest) o below g h = leaf_ends l leaf (b ∷ rest) o below g h
leaf_ends (Node l r) (true ∷ leaf) (b ∷ rest) o below g h = leaf_ends r leaf (b ∷ rest) o below g h

pub keys_order : KeysOrderLeaves
keys_order search leaf node o below g h less =
    elim (key_order 16 leaf node less) as (λ _. IsLeftOf leaf node) [
      | inl x ↦ x
      | inr y ↦
          let at : subtree search (leaf ++ y.0) ≡ Some below = ap (subtree search) (sym y.1) ∙ h in
          let none : y.0 ≡ [] = leaf_ends search leaf y.0 o below g at in
          let same : node ≡ leaf = y.1 ∙ (ap (λ (r : Turns). leaf ++ r) none ∙ append-nil leaf) in
          absurd (omega (arith, less, ap key same))
    ]

-- ---- left and right, by numbers
pub left_less : (s t : Turns) → length s ≡ length t → IsLeftOf s t → code_from 0 s < code_from 0 t
left_less [] t e h = absurd h
left_less (a ∷ s) [] e h = absurd h
left_less (false ∷ s) (false ∷ t) e h = left_less s t (omega (arith, e)) h
left_less (true ∷ s) (true ∷ t) e h =
    let less : length s ≡ length t = omega (arith, e) in
    let goal : code_from 1 s < code_from 1 t = omega (arith, left_less s t less h, code_from_above 1 s, code_from_above 1 t, ap (λ n. 2 ^ n) less) in goal
left_less (true ∷ s) (false ∷ t) e h = absurd h
left_less (false ∷ s) (true ∷ t) e h =
    let less : length s ≡ length t = omega (arith, e) in
    let goal : code_from 0 s < code_from 1 t = omega (arith, code_from_above 1 t, bits_below s, ap (λ n. 2 ^ n) less) in goal

pub less_left : (s t : Turns) → length s ≡ length t → code_from 0 s < code_from 0 t → IsLeftOf s t
less_left [] [] e h = absurd (omega (arith, h))
less_left [] (b ∷ t) e h = absurd (omega (arith, e))
less_left (a ∷ s) [] e h = absurd (omega (arith, e))
less_left (false ∷ s) (false ∷ t) e h = less_left s t (omega (arith, e)) h
less_left (true ∷ s) (true ∷ t) e h =
    let less : length s ≡ length t = omega (arith, e) in
    let one : code_from 1 s < code_from 1 t = h in
    less_left s t less (omega (arith, one, code_from_above 1 s, code_from_above 1 t, ap (λ n. 2 ^ n) less))
less_left (false ∷ s) (true ∷ t) e h = tt
less_left (true ∷ s) (false ∷ t) e h =
    let less : length s ≡ length t = omega (arith, e) in
    let one : code_from 1 s < code_from 0 t = h in
    absurd (omega (arith, one, code_from_above 1 s, bits_below t, ap (λ n. 2 ^ n) less))

-- what follows the common turns decides nothing where one of the two has ended
pub ends_right : (s t : Turns) → length s ≡ length t → (u : Turns) → IsLeftOf s (t ++ u) → IsLeftOf s t
ends_right [] t e u h = absurd h
ends_right (a ∷ s) [] e u h = absurd (omega (arith, e))
ends_right (false ∷ s) (false ∷ t) e u h = ends_right s t (omega (arith, e)) u h
ends_right (true ∷ s) (true ∷ t) e u h = ends_right s t (omega (arith, e)) u h
ends_right (false ∷ s) (true ∷ t) e u h = tt
ends_right (true ∷ s) (false ∷ t) e u h = absurd h

pub ends_left : (s t : Turns) → length s ≡ length t → (u : Turns) → IsLeftOf (s ++ u) t → IsLeftOf s t
ends_left [] [] e u h = absurd (nothing u h)
  where
    nothing : (u : Turns) → ¬ IsLeftOf u []
    nothing [] k = k
    nothing (b ∷ u) k = k
ends_left [] (b ∷ t) e u h = absurd (omega (arith, e))
ends_left (a ∷ s) [] e u h = absurd (omega (arith, e))
ends_left (false ∷ s) (false ∷ t) e u h = ends_left s t (omega (arith, e)) u h
ends_left (true ∷ s) (true ∷ t) e u h = ends_left s t (omega (arith, e)) u h
ends_left (false ∷ s) (true ∷ t) e u h = tt
ends_left (true ∷ s) (false ∷ t) e u h = absurd h

pub more_right : (s t u v : Turns) → IsLeftOf s t → IsLeftOf (s ++ u) (t ++ v)
more_right [] t u v h = absurd h
more_right (a ∷ s) [] u v h = absurd h
more_right (false ∷ s) (false ∷ t) u v h = more_right s t u v h
more_right (true ∷ s) (true ∷ t) u v h = more_right s t u v h
more_right (false ∷ s) (true ∷ t) u v h = tt
more_right (true ∷ s) (false ∷ t) u v h = absurd h

-- ---- the first turns
pub turns_cut : (k len bits : ℕ) → (rest : Turns) × (turns_of (len + k) bits ≡ turns_of len (bits / 2 ^ k) ++ rest)
turns_cut zero len bits =
    let whole : len + 0 ≡ len = omega arith in
    let one : bits / 2 ^ 0 ≡ bits = div-one bits in
    ([], (λ i. turns_of (whole i) (sym one i)) ∙ sym (append-nil (turns_of len (bits / 2 ^ 0))))
turns_cut (suc k) len bits =
    let more : len + suc k ≡ suc (len + k) = omega arith in
    let later = turns_cut k len (bits / 2) in
    let last : List Bool = nat_eq (bits % 2) 1 ∷ [] in
    let halves : bits / 2 / 2 ^ k ≡ bits / 2 ^ suc k = div-div-eq-div-mul bits 2 (2 ^ k) ∙ ap (λ n. bits / n) (sym (double k)) in (
      later.0 ++ last,
      ap (λ n. turns_of n bits) more
          ∙ (ap (λ (t : Turns). t ++ last) later.1 ∙ (append_assoc (turns_of len (bits / 2 / 2 ^ k)) later.0 last ∙ ap (λ n. turns_of len n ++ (later.0 ++ last)) halves)),
    )

pub first_fits : (k len bits : ℕ) → bits < 2 ^ (len + k) → bits / 2 ^ k < 2 ^ len
first_fits k len bits h =
    let some : 0 < 2 ^ k = one-le-pow k 2 (omega arith) in
    (div-lt_iff_lt-mul some).1 (let P : ℕ → Type 0 = λ n. bits < n in subst P (pow-add 2 len k) h)

-- Paths compare as the numbers of their common turns.
pub right_by_bits : (s t u v : Turns) (m n : ℕ) → length s ≡ length t → (u ≡ []) ⊎ (v ≡ []) → code_from 0 s ≡ m → code_from 0 t ≡ n → (m < n) ↔ IsLeftOf (s ++ u) (t ++ v)
right_by_bits s t u v m n e ends f g = (
  λ h. more_right s t u v (less_left s t e (omega (arith, f, g, h))),
  λ h. let near : IsLeftOf s t = elim ends as (λ _. IsLeftOf s t) [
    | inl none ↦
        let P : Turns → Type 0 = λ z. IsLeftOf z (t ++ v) in
        ends_right s t e v (subst P ((ap (λ (r : Turns). s ++ r) none) ∙ append-nil s) h)
    | inr none ↦
        let P : Turns → Type 0 = λ z. IsLeftOf (s ++ u) z in
        ends_left s t e u (subst P ((ap (λ (r : Turns). t ++ r) none) ∙ append-nil t) h)
  ] in omega (arith, f, g, left_less s t e near),
)
