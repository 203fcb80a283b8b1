-- In a list of symbols that differ, each has one number.
use Rattle.std.proofs.Common.{◌≡◌, ℕ, zero, suc, Bool, true, false, List, [], ◌∷◌, slice_get, Option, Some, None, IfSome, refl, sym, subst, arith}
use Rattle.std.specs.List.{AllByRecursion, IsDistinct}
use Rattle.std.proofs.lemmas.Grind.{common_steps}
use Rattle.std.proofs.lemmas.Map.Keys.{IsDistinct-head, IsDistinct-tail}
use Rattle.std.specs.Borrow.{Bor}
use Rattle.std.specs.Option.{option_copied}
use Rattle.me_terms.specs.LabelEquality.{same_symbol}
use Rattle.me_terms.specs.LabelEqualityLaws.{same_symbol_sound, same_symbol_itself}
use Rattle.me_terms.specs.Signatures.{number_of}
use Rattle.me_terms.specs.Values.{SymbolValue}

same_some : {X : Type 0} (x y : X) → Some x ≡ Some y → x ≡ y
same_some x y h = cc h

each_at : {X : Type 0} (P : X → Type 0) (xs : List X) (n : ℕ) (x : X) → AllByRecursion P xs → slice_get xs n ≡ Some x → P x
each_at P [] n x h is = cc is
each_at P (y ∷ ys) zero x h is = subst P (same_some y x is) h.0
each_at P (y ∷ ys) (suc n) x h is = each_at P ys n x h.1 is

other : (x s : SymbolValue) → same_symbol x s ≡ false → (b : Bool) → same_symbol s x ≡ b → b ≡ false
other x s h false is = refl
other x s h true is =
    let P : SymbolValue → Type 0 = λ z. same_symbol x z ≡ false in
    let itself : same_symbol x x ≡ false = subst P (same_symbol_sound s x is) h in
    cc (itself, same_symbol_itself x)

pub own_number : (symbols : List SymbolValue) → IsDistinct same_symbol symbols → (n : ℕ) (s : SymbolValue) → slice_get symbols n ≡ Some s → number_of s symbols ≡ n
own_number [] h n s is = cc is
own_number (x ∷ xs) h zero s is =
    let P : SymbolValue → Type 0 = λ z. same_symbol s z ≡ true in
    let here : same_symbol s x ≡ true = subst P (sym (same_some x s is)) (same_symbol_itself s) in
    grind (arith, common_steps, here)
own_number (x ∷ xs) h (suc n) s is =
    let apart : same_symbol s x ≡ false = other x s (each_at (λ y. same_symbol x y ≡ false) xs n s (IsDistinct-head same_symbol x xs h) is) (same_symbol s x) refl in
    grind (arith, common_steps, apart, own_number xs (IsDistinct-tail same_symbol x xs h) n s is)

-- the symbol that a list of symbols that differ has at n has the number n
pub own_at : (symbols : List SymbolValue) → IsDistinct same_symbol symbols → (n : ℕ) (r : Option (Bor SymbolValue)) → option_copied r ≡ slice_get symbols n → IfSome r (λ symbol. number_of symbol.now symbols ≡ n)
own_at symbols h n None is = tt
own_at symbols h n (Some symbol) is = own_number symbols h n symbol.now (sym is)
