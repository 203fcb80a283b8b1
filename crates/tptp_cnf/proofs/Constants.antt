-- A search for the first constant, and c0 where there is none.
use Rattle.std.proofs.Common.{◌≡◌, ℕ, zero, suc, ◌+◌, ◌<◌, ◌≤◌, Bool, true, false, cond, ◌||◌, List, [], ◌∷◌, ◌++◌, length, drop, slice_get, Option, Some, None, refl, sym, ap, ◌∙◌, arith}
use Rattle.std.specs.Prelude.{not, if◌then◌else◌}
use Rattle.std.specs.List.{list_any, position_or_len}
use Rattle.me_terms.specs.LabelEquality.{same_symbol}
use Rattle.me_terms.specs.LabelEqualityLaws.{same_symbol_itself, same_symbol_sound}
use Rattle.me_terms.specs.Signatures.{with_symbol, number_of}
use Rattle.me_terms.specs.Values.{SymbolValue}
use Rattle.tptp_cnf.specs.Meaning.{is_constant, c0_symbol, with_constant}
use Rattle.tptp_cnf.specs.Rows.{constant_at}

-- none of the first n functions is a constant
pub record Searched (functions : List SymbolValue) (n : ℕ) : Type 0 where
  pub place : position_or_len is_constant functions ≡ n + position_or_len is_constant (drop n functions)
  pub any : list_any is_constant functions ≡ list_any is_constant (drop n functions)

pub searched_none : (functions : List SymbolValue) → Searched functions 0
searched_none functions = record { place = omega arith; any = refl }

-- the function at a place, and those behind it
at : (functions : List SymbolValue) (n : ℕ) (s : SymbolValue) → slice_get functions n ≡ Some s → drop n functions ≡ s ∷ drop (suc n) functions
at [] n s e = absurd cc
at (f ∷ fs) zero s e = cc
at (f ∷ fs) (suc n) s e = at fs n s e

behind : (functions : List SymbolValue) (n : ℕ) → drop (suc n) functions ≡ drop (n + 1) functions
behind functions n = let k : suc n ≡ n + 1 = omega arith in ap (λ (m : ℕ). drop m functions) k

some : (functions : List SymbolValue) (n : ℕ) → n < length functions → slice_get functions n ≡ None → ⊥
some [] n lt e = omega (arith, lt)
some (f ∷ fs) zero lt e = cc
some (f ∷ fs) (suc n) lt e = some fs n (omega (arith, lt)) e

place_by : (b : Bool) (s : SymbolValue) (ss : List SymbolValue) → is_constant s ≡ b → position_or_len is_constant (s ∷ ss) ≡ cond (not b) (1 + position_or_len is_constant ss) 0
place_by b s ss e = ap (λ (x : Bool). cond (not x) (1 + position_or_len is_constant ss) 0) e

any_by : (b : Bool) (s : SymbolValue) (ss : List SymbolValue) → is_constant s ≡ b → list_any is_constant (s ∷ ss) ≡ (b || list_any is_constant ss)
any_by b s ss e = ap (λ (x : Bool). x || list_any is_constant ss) e

more_by : (functions : List SymbolValue) (n : ℕ) (o : Option SymbolValue) → Searched functions n → n < length functions → slice_get functions n ≡ o → constant_at o ≡ false → Searched functions (n + 1)
more_by functions n None h lt e k = absurd (some functions n lt e)
more_by functions n (Some s) h lt e k =
    let d : drop n functions ≡ s ∷ drop (n + 1) functions = at functions n s e ∙ ap (λ (x : List SymbolValue). s ∷ x) (behind functions n) in
    let place : position_or_len is_constant (drop n functions) ≡ 1 + position_or_len is_constant (drop (n + 1) functions) = ap (position_or_len is_constant) d ∙ place_by false s (drop (n + 1) functions) k in
    record {
      place = omega (arith, h.place);
      any = h.any ∙ ap (list_any is_constant) d ∙ any_by false s (drop (n + 1) functions) k;
    }

pub searched_more : (functions : List SymbolValue) (n : ℕ) → Searched functions n → n < length functions → constant_at (slice_get functions n) ≡ false → Searched functions (n + 1)
searched_more functions n h lt k = more_by functions n (slice_get functions n) h lt refl k

found_by : (functions : List SymbolValue) (n : ℕ) (o : Option SymbolValue) → Searched functions n → slice_get functions n ≡ o → constant_at o ≡ true → (n ≡ position_or_len is_constant functions) × (list_any is_constant functions ≡ true)
found_by functions n None h e k = absurd cc
found_by functions n (Some s) h e k =
    let d = at functions n s e in
    let place : position_or_len is_constant (drop n functions) ≡ 0 = ap (position_or_len is_constant) d ∙ place_by true s (drop (suc n) functions) k in
    (omega (arith, h.place), h.any ∙ ap (list_any is_constant) d ∙ any_by true s (drop (suc n) functions) k)

pub found : (functions : List SymbolValue) (n : ℕ) → Searched functions n → constant_at (slice_get functions n) ≡ true → (n ≡ position_or_len is_constant functions) × (list_any is_constant functions ≡ true)
found functions n h k = found_by functions n (slice_get functions n) h refl k

pub searched_all : (functions : List SymbolValue) (n : ℕ) → Searched functions n → length functions ≤ n → list_any is_constant functions ≡ false
searched_all functions n h le = h.any ∙ ap (list_any is_constant) (none functions n le)
  where
    none : (fs : List SymbolValue) (k : ℕ) → length fs ≤ k → drop k fs ≡ []
    none [] zero l = refl
    none [] (suc k) l = refl
    none (f ∷ fs) zero l = absurd (omega (arith, l))
    none (f ∷ fs) (suc k) l = none fs k (omega (arith, l))

-- ---- c0

abbrev with_constant_if : Bool → List SymbolValue → List SymbolValue
with_constant_if b functions = if b then functions else functions ++ c0_symbol ∷ []

pub constant_known : (functions : List SymbolValue) → list_any is_constant functions ≡ true → with_constant functions ≡ functions
constant_known functions e = ap (λ (b : Bool). with_constant_if b functions) e

constant_added : (functions : List SymbolValue) → list_any is_constant functions ≡ false → with_constant functions ≡ functions ++ c0_symbol ∷ []
constant_added functions e = ap (λ (b : Bool). with_constant_if b functions) e

is_c0 : (b c : Bool) (s : SymbolValue) → same_symbol c0_symbol s ≡ b → (is_constant s || c) ≡ false → (b ≡ false) × (c ≡ false)
is_c0 true c s e h = let k : c0_symbol ≡ s = same_symbol_sound c0_symbol s e in let one : is_constant s ≡ true = ap is_constant (sym k) in absurd (both (is_constant s) c one h)
  where
    both : (x y : Bool) → x ≡ true → (x || y) ≡ false → ⊥
    both true y p q = cc
    both false y p q = cc
is_c0 false c s e h = (refl, rest (is_constant s) c h)
  where
    rest : (x y : Bool) → (x || y) ≡ false → y ≡ false
    rest true y p = absurd cc
    rest false y p = p

no_c0 : (functions : List SymbolValue) → list_any is_constant functions ≡ false → list_any (same_symbol c0_symbol) functions ≡ false
no_c0 [] e = refl
no_c0 (f ∷ fs) e =
    let k = is_c0 (same_symbol c0_symbol f) (list_any is_constant fs) f refl e in
    ap (λ (b : Bool). b || list_any (same_symbol c0_symbol) fs) k.0 ∙ no_c0 fs k.1

pushed_place : (p : SymbolValue → Bool) (functions : List SymbolValue) (s : SymbolValue) → list_any p functions ≡ false → p s ≡ true → position_or_len p (functions ++ s ∷ []) ≡ length functions
pushed_place p [] s e h = ap (λ (b : Bool). cond (not b) (1 + 0) 0) h
pushed_place p (f ∷ fs) s e h = by (p f) (list_any p fs) e (pushed_place p fs s)
  where
    by : (a b : Bool) → (a || b) ≡ false → (b ≡ false → p s ≡ true → position_or_len p (fs ++ s ∷ []) ≡ length fs) → cond (not a) (1 + position_or_len p (fs ++ s ∷ [])) 0 ≡ length (f ∷ fs)
    by true b k g = absurd cc
    by false b k g = omega (arith, g k h)

symbol_added : (functions : List SymbolValue) → list_any is_constant functions ≡ false → with_symbol functions c0_symbol ≡ with_constant functions
symbol_added functions e = ap (λ (b : Bool). with_constant_if b functions) (no_c0 functions e) ∙ sym (constant_added functions e)

pub c0_added : (functions new : List SymbolValue) (s : SymbolValue) → list_any is_constant functions ≡ false → s ≡ c0_symbol → new ≡ with_symbol functions s → new ≡ with_constant functions
c0_added functions new s e c h = h ∙ ap (with_symbol functions) c ∙ symbol_added functions e

pub c0_place : (functions new : List SymbolValue) (s : SymbolValue) (n : ℕ) → list_any is_constant functions ≡ false → s ≡ c0_symbol → new ≡ with_symbol functions s → n ≡ number_of s new → n ≡ position_or_len is_constant (with_constant functions)
c0_place functions new s n e c h k =
    k ∙ ap (λ (x : SymbolValue). number_of x new) c ∙ ap (number_of c0_symbol) (c0_added functions new s e c h ∙ constant_added functions e)
    ∙ pushed_place (same_symbol c0_symbol) functions c0_symbol (no_c0 functions e) (same_symbol_itself c0_symbol)
    ∙ sym (pushed_place is_constant functions c0_symbol e refl)
    ∙ ap (position_or_len is_constant) (sym (constant_added functions e))
