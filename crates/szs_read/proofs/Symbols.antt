-- Lists of symbols that grow at their end.
use Rattle.std.proofs.Common.{◌≡◌, ◌+◌, ℕ, zero, suc, Bool, true, false, cond, ◌||◌, List, [], ◌∷◌, ◌++◌, length, take, drop, Option, Some, None, refl, sym, ap, subst, ◌∙◌, append_assoc, arith}
use Rattle.std.proofs.lemmas.List.{take-append-drop}
use Rattle.std.specs.Prelude.{IfSome, slice_get, option_to_list, not, eqb}
use Rattle.std.specs.List.{AllByRecursion, list_any, position_or_len}
use Rattle.me_terms.specs.LabelEquality.{same_symbol}
use Rattle.me_terms.specs.LabelEqualityLaws.{same_symbol_sound}
use Rattle.me_terms.specs.Signatures.{with_symbol, number_of, takes}
use Rattle.me_terms.specs.Values.{SymbolValue}
use Rattle.tptp_cnf.specs.Meaning.{with_symbols}
use Rattle.tptp_cnf.specs.Plain.{symbols_at}
use Rattle.tptp_cnf.proofs.Numbering.{Longer, longer_same, longer_on, symbol_has, symbol_longer}

-- ---- lists

pub all_both : {X : Type 0} (P : X → Type 0) (xs ys : List X) → AllByRecursion P xs → AllByRecursion P ys → AllByRecursion P (xs ++ ys)
all_both P [] ys a b = b
all_both P (x ∷ xs) ys a b = (a.0, all_both P xs ys a.1 b)

pub all_so : {X : Type 0} (P Q : X → Type 0) (xs : List X) → ((x : X) → P x → Q x) → AllByRecursion P xs → AllByRecursion Q xs
all_so P Q [] f h = tt
all_so P Q (x ∷ xs) f h = (f x h.0, all_so P Q xs f h.1)

pub longer_of : {X : Type 0} (xs ys : List X) → take (length xs) ys ≡ xs → Longer xs ys
longer_of {X} xs ys h = (drop (length xs) ys, sym (take-append-drop (length xs) ys) ∙ ap (λ (v : List X). v ++ drop (length xs) ys) h)

front_of : {X : Type 0} (xs more : List X) → take (length xs) (xs ++ more) ≡ xs
front_of [] more = refl
front_of {X} (x ∷ xs) more = ap (λ (v : List X). x ∷ v) (front_of xs more)

pub take_of : {X : Type 0} (xs ys : List X) → Longer xs ys → take (length xs) ys ≡ xs
take_of {X} xs ys h = ap (λ (v : List X). take (length xs) v) h.1 ∙ front_of xs h.0

get_front : {X : Type 0} (xs more : List X) (n : ℕ) (x : X) → slice_get xs n ≡ Some x → slice_get (xs ++ more) n ≡ Some x
get_front [] more n x h = absurd cc
get_front (y ∷ ys) more zero x h = h
get_front (y ∷ ys) more (suc n) x h = get_front ys more n x h

pub get_longer : {X : Type 0} (xs ys : List X) (n : ℕ) (x : X) → Longer xs ys → slice_get xs n ≡ Some x → slice_get ys n ≡ Some x
get_longer {X} xs ys n x l h = ap (λ (v : List X). slice_get v n) l.1 ∙ get_front xs l.0 n x h

pub if_some : {X : Type 0} (P : X → Type 0) (o : Option X) (x : X) → o ≡ Some x → IfSome o P → P x
if_some {X} P o x e h = subst (λ (v : Option X). IfSome v P) e h

pub some_so : {X : Type 0} (P Q : X → Type 0) (o : Option X) → ((x : X) → P x → Q x) → IfSome o P → IfSome o Q
some_so P Q None f h = tt
some_so P Q (Some x) f h = f x h

-- ---- a symbol among others

pub record TakenAt (o : Option SymbolValue) (n : ℕ) : Type 0 where
  pub symbol : SymbolValue
  pub is : o ≡ Some symbol
  pub arity : eqb symbol.arity n ≡ true

pub taken_at : (o : Option SymbolValue) (n : ℕ) → takes o n ≡ true → TakenAt o n
taken_at None n h = absurd cc
taken_at (Some s) n h = record { symbol = s; is = refl; arity = h }

pub takes_longer : (xs ys : List SymbolValue) (f n : ℕ) → Longer xs ys → takes (slice_get xs f) n ≡ true → takes (slice_get ys f) n ≡ true
takes_longer xs ys f n l h =
    let t = taken_at (slice_get xs f) n h in
    ap (λ (o : Option SymbolValue). takes o n) (get_longer xs ys f t.symbol l t.is) ∙ t.arity

pub same_longer : (xs ys : List SymbolValue) (f n : ℕ) → Longer xs ys → takes (slice_get xs f) n ≡ true → slice_get ys f ≡ slice_get xs f
same_longer xs ys f n l h =
    let t = taken_at (slice_get xs f) n h in
    get_longer xs ys f t.symbol l t.is ∙ sym t.is

-- the first item that passes a test
found_or : {X : Type 0} (p : X → Bool) (x : X) (xs : List X) (b : Bool) → p x ≡ b → (b || list_any p xs) ≡ true → ((list_any p xs ≡ true) → (y : X) × (slice_get xs (position_or_len p xs) ≡ Some y) × (p y ≡ true)) → (y : X) × (slice_get (x ∷ xs) (cond (not b) (1 + position_or_len p xs) 0) ≡ Some y) × (p y ≡ true)
found_or p x xs true e h more = (x, refl, e)
found_or {X} p x xs false e h more =
    let f = more h in
    let e : 1 + position_or_len p xs ≡ suc (position_or_len p xs) = omega arith in
    (f.0, ap (λ (k : ℕ). slice_get (x ∷ xs) k) e ∙ f.1, f.2)

pub found : {X : Type 0} (p : X → Bool) (xs : List X) → list_any p xs ≡ true → (y : X) × (slice_get xs (position_or_len p xs) ≡ Some y) × (p y ≡ true)
found p [] h = absurd cc
found p (x ∷ xs) h = found_or p x xs (p x) refl h (found p xs)

pub number_is : (known : List SymbolValue) (s : SymbolValue) → slice_get (with_symbol known s) (number_of s (with_symbol known s)) ≡ Some s
number_is known s =
    let f = found (same_symbol s) (with_symbol known s) (symbol_has known s) in
    f.1 ∙ ap (λ (x : SymbolValue). Some x) (sym (same_symbol_sound s f.0 f.2))

-- ---- many symbols

pub symbols_longer : (known ss : List SymbolValue) → Longer known (with_symbols known ss)
symbols_longer known [] = longer_same known
symbols_longer known (s ∷ ss) = longer_on known (with_symbol known s) (with_symbols (with_symbol known s) ss) (symbol_longer known s) (symbols_longer (with_symbol known s) ss)

-- each of these is the number of a symbol
abbrev pub AreIn : List SymbolValue → List ℕ → Type 0
AreIn symbols ns = AllByRecursion (λ n. (s : SymbolValue) × (slice_get symbols n ≡ Some s)) ns

pub symbols_stay : (xs ys : List SymbolValue) (ns : List ℕ) → Longer xs ys → AreIn xs ns → symbols_at ys ns ≡ symbols_at xs ns
symbols_stay xs ys [] l h = refl
symbols_stay xs ys (n ∷ ns) l h =
    ap (λ (o : Option SymbolValue). option_to_list o ++ symbols_at ys ns) (get_longer xs ys n h.0.0 l h.0.1 ∙ sym h.0.1)
    ∙ ap (λ (v : List SymbolValue). option_to_list (slice_get xs n) ++ v) (symbols_stay xs ys ns l h.1)

pub one_at : (symbols : List SymbolValue) (n : ℕ) (s : SymbolValue) → slice_get symbols n ≡ Some s → symbols_at symbols (n ∷ []) ≡ s ∷ []
one_at symbols n s h = ap (λ (o : Option SymbolValue). option_to_list o ++ []) h

pub at_both : (symbols : List SymbolValue) (ms ns : List ℕ) → symbols_at symbols (ms ++ ns) ≡ symbols_at symbols ms ++ symbols_at symbols ns
at_both symbols [] ns = refl
at_both symbols (m ∷ ms) ns =
    ap (λ (v : List SymbolValue). option_to_list (slice_get symbols m) ++ v) (at_both symbols ms ns)
    ∙ sym (append_assoc (option_to_list (slice_get symbols m)) (symbols_at symbols ms) (symbols_at symbols ns))

pub with_both : (xs ys known : List SymbolValue) → with_symbols known (xs ++ ys) ≡ with_symbols (with_symbols known xs) ys
with_both [] ys known = refl
with_both (x ∷ xs) ys known = with_both xs ys (with_symbol known x)

-- Symbols that were added by their numbers, and others after them, were added together.
pub added_both : (old mid new : List SymbolValue) (ms ns : List ℕ) → AreIn mid ms → mid ≡ with_symbols old (symbols_at mid ms) → new ≡ with_symbols mid (symbols_at new ns) → new ≡ with_symbols old (symbols_at new (ms ++ ns))
added_both old mid new ms ns a h k =
    let l : Longer mid new = subst (λ (v : List SymbolValue). Longer mid v) (sym k) (symbols_longer mid (symbols_at new ns)) in
    k
    ∙ ap (λ (v : List SymbolValue). with_symbols v (symbols_at new ns)) (h ∙ ap (with_symbols old) (sym (symbols_stay mid new ms l a)))
    ∙ sym (with_both (symbols_at new ms) (symbols_at new ns) old)
    ∙ ap (with_symbols old) (sym (at_both new ms ns))

pub added_longer : (mid new : List SymbolValue) (ns : List ℕ) → new ≡ with_symbols mid (symbols_at new ns) → Longer mid new
added_longer mid new ns k = subst (λ (v : List SymbolValue). Longer mid v) (sym k) (symbols_longer mid (symbols_at new ns))

-- what holds of the symbols of both
pub all_at_both : (P : SymbolValue → Type 0) (mid new : List SymbolValue) (ms ns : List ℕ) → Longer mid new → AreIn mid ms → AllByRecursion P (symbols_at mid ms) → AllByRecursion P (symbols_at new ns) → AllByRecursion P (symbols_at new (ms ++ ns))
all_at_both P mid new ms ns l a h k =
    subst (AllByRecursion P) (sym (at_both new ms ns))
    (all_both P (symbols_at new ms) (symbols_at new ns) (subst (AllByRecursion P) (sym (symbols_stay mid new ms l a)) h) k)
