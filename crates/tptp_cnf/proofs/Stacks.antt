-- The topmost items of a stack, and the literals that nodes are built up to from the last one on.
use Rattle.std.proofs.Common.{◌≡◌, ℕ, zero, suc, ◌+◌, ◌-◌, ◌<◌, List, [], ◌∷◌, ◌++◌, map, reverse, take, drop, refl, ap, ◌∙◌, append_assoc, arith}
use Rattle.std.proofs.lemmas.List.{reverse-append}
use Rattle.me_terms.specs.TermViews.{term_value}
use Rattle.me_terms.specs.Terms.{TermValue}
use Rattle.me_terms.specs.declared.term.Term.{Term}

abbrev pub seen : List Term → List TermValue
seen items = map term_value (reverse items)

pub popped : (old new : List Term) (x : Term) → old ≡ new ++ x ∷ [] → seen old ≡ term_value x ∷ seen new
popped old new x e = ap seen e ∙ ap (map term_value) (reverse-append new (x ∷ []))

take_none : (k : ℕ) → take {A = TermValue} k [] ≡ []
take_none zero = refl
take_none (suc k) = refl

drop_none : (k : ℕ) → drop {A = TermValue} k [] ≡ []
drop_none zero = refl
drop_none (suc k) = refl

take_one : (xs : List TermValue) (k : ℕ) → take 1 xs ++ take k (drop 1 xs) ≡ take (suc k) xs
take_one [] k = take_none k
take_one (x ∷ xs) k = refl

drop_one : (xs : List TermValue) (k : ℕ) → drop k (drop 1 xs) ≡ drop (suc k) xs
drop_one [] k = drop_none k
drop_one (x ∷ xs) k = refl

-- one more argument of those that are still to be taken
pub one_taken : (count i : ℕ) (some more now next start : List TermValue) → i < count → some ++ take (count - i) now ≡ take count start → more ≡ some ++ take 1 now → next ≡ drop 1 now → more ++ take (count - (i + 1)) next ≡ take count start
one_taken count i some more now next start lt h e f =
    let left : suc (count - (i + 1)) ≡ count - i = omega (arith, lt) in
    ap (λ (x : List TermValue). x ++ take (count - (i + 1)) next) e
    ∙ ap (λ (x : List TermValue). (some ++ take 1 now) ++ take (count - (i + 1)) x) f
    ∙ append_assoc some (take 1 now) (take (count - (i + 1)) (drop 1 now))
    ∙ ap (λ (x : List TermValue). some ++ x) (take_one now (count - (i + 1)))
    ∙ ap (λ (k : ℕ). some ++ take k now) left
    ∙ h

pub one_dropped : (count i : ℕ) (now next start : List TermValue) → i < count → drop (count - i) now ≡ drop count start → next ≡ drop 1 now → drop (count - (i + 1)) next ≡ drop count start
one_dropped count i now next start lt h f =
    let left : suc (count - (i + 1)) ≡ count - i = omega (arith, lt) in
    ap (drop (count - (i + 1))) f ∙ drop_one now (count - (i + 1)) ∙ ap (λ (k : ℕ). drop k now) left ∙ h
