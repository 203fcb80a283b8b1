-- Symbols and variables of a plain problem have their numbers again when its text is read.
use Rattle.std.proofs.Common.{◌≡◌, ◌<◌, ◌≤◌, ◌+◌, ◌^◌, ℕ, zero, suc, Bool, true, false, cond, eqb, ltb, List, [], ◌∷◌, ◌++◌, length, Some, refl, sym, ap, ◌∙◌, arith}
use Rattle.std.proofs.lemmas.Bool.{eqb-true}
use Rattle.std.proofs.lemmas.Bool.Decides.{nat_tests}
use Rattle.std.proofs.lemmas.Fmt.{decimal_is_IsNumeral}
use Rattle.std.proofs.lemmas.List.{length-append, map-append}
use Rattle.std.proofs.lemmas.Slice.Eq.{bytes_eq-Decides}
use Rattle.std.specs.Prelude.{◌||◌, ◌&&◌, not, decimal, slice_get}
use Rattle.std.specs.List.{AllByRecursion, list_any, position_or_len}
use Rattle.std.specs.Str.{bytes_eq}
use Rattle.std.specs.Str.Parse.{digits_value}
use Rattle.me_terms.specs.LabelEquality.{same_symbol}
use Rattle.me_terms.specs.LabelEqualityLaws.{same_symbol_sound, same_symbol_itself}
use Rattle.me_terms.specs.Signatures.{number_of}
use Rattle.me_terms.specs.TermEqualityLaws.{both_parts}
use Rattle.me_terms.specs.Values.{SymbolValue}
use Rattle.me_terms.specs.Variables.{is_numbered_from, first_ones}
use Rattle.tptp_grammar.specs.Limits.{with_variables}
use Rattle.tptp_cnf.specs.Meaning.{is_constant, c0_symbol, with_constant, with_symbols, text_place}
use Rattle.tptp_cnf.proofs.Numbering.{position_stays, text_itself}
use Rattle.cnf_writer.proofs.Trees.{variable_text, names}

-- ---- truth values

neither : (a b : Bool) → (a || b) ≡ false → (a ≡ false) × (b ≡ false)
neither true b h = absurd cc
neither false b h = (refl, h)

or_left : (a b : Bool) → a ≡ true → (a || b) ≡ true
or_left true b h = refl
or_left false b h = absurd cc

or_right : (a b : Bool) → b ≡ true → (a || b) ≡ true
or_right true b h = refl
or_right false b h = h

clash : {A : Type 0} (b : Bool) → b ≡ true → b ≡ false → A
clash b h k = let z : true ≡ false = sym h ∙ k in absurd cc

any_push : {X : Type 0} (p : X → Bool) (xs : List X) (y : X) → p y ≡ true → list_any p (xs ++ y ∷ []) ≡ true
any_push p [] y h = or_left (p y) false h
any_push p (x ∷ xs) y h = or_right (p x) (list_any p (xs ++ y ∷ [])) (any_push p xs y h)

any_before : {X : Type 0} (p : X → Bool) (xs : List X) (y : X) → list_any p xs ≡ true → list_any p (xs ++ y ∷ []) ≡ true
any_before p [] y h = absurd cc
any_before p (x ∷ xs) y h = by (p x) (list_any p xs) (list_any p (xs ++ y ∷ [])) h (any_before p xs y)
  where
    by : (a b c : Bool) → (a || b) ≡ true → (b ≡ true → c ≡ true) → (a || c) ≡ true
    by true b c h k = refl
    by false b c h k = k h

none_push : {X : Type 0} (p : X → Bool) (xs : List X) (y : X) → list_any p xs ≡ false → p y ≡ false → list_any p (xs ++ y ∷ []) ≡ false
none_push p [] y h k = ap (λ (b : Bool). b || false) k
none_push p (x ∷ xs) y h k =
    let n = neither (p x) (list_any p xs) h in
    ap (λ (b : Bool). b || list_any p (xs ++ y ∷ [])) n.0 ∙ none_push p xs y n.1 k

position_push : {X : Type 0} (p : X → Bool) (xs : List X) (y : X) → list_any p xs ≡ false → p y ≡ true → position_or_len p (xs ++ y ∷ []) ≡ length xs
position_push p [] y h k = ap (λ (b : Bool). cond (not b) (1 + 0) 0) k
position_push p (x ∷ xs) y h k =
    let n = neither (p x) (list_any p xs) h in
    let rest = position_push p xs y n.1 k in
    ap (λ (b : Bool). cond (not b) (1 + position_or_len p (xs ++ y ∷ [])) 0) n.0 ∙ omega (arith, rest)

-- ---- symbols

-- no symbol stands twice
abbrev pub Different : List SymbolValue → Type 0
Different [] = Unit {0}
Different (s ∷ ss) = (list_any (same_symbol s) ss ≡ false) × Different ss

any_at : (p : SymbolValue → Bool) (ss : List SymbolValue) (k : ℕ) (s : SymbolValue) → slice_get ss k ≡ Some s → p s ≡ true → list_any p ss ≡ true
any_at p [] k s e h = absurd cc
any_at p (t ∷ ss) zero s e h = let same : t ≡ s = cc in or_left (p t) (list_any p ss) (ap p same ∙ h)
any_at p (t ∷ ss) (suc k) s e h = or_right (p t) (list_any p ss) (any_at p ss k s e h)

pub number_at : (ss : List SymbolValue) (k : ℕ) (s : SymbolValue) → Different ss → slice_get ss k ≡ Some s → number_of s ss ≡ k
number_at [] k s d e = absurd cc
number_at (t ∷ ss) zero s d e =
    let same : t ≡ s = cc in
    ap (λ (b : Bool). cond (not b) (1 + number_of s ss) 0) (ap (same_symbol s) same ∙ same_symbol_itself s)
number_at (t ∷ ss) (suc k) s d e = by (same_symbol s t) refl (number_at ss k s d.1 e)
  where
    by : (b : Bool) → same_symbol s t ≡ b → number_of s ss ≡ k → cond (not b) (1 + number_of s ss) 0 ≡ suc k
    by true f n = clash (list_any (same_symbol t) ss) (any_at (same_symbol t) ss k s e (ap (same_symbol t) (same_symbol_sound s t f) ∙ same_symbol_itself t)) d.0
    by false f n = omega (arith, n)

turned : (s t : SymbolValue) → same_symbol s t ≡ false → same_symbol t s ≡ false
turned s t h = by (same_symbol t s) refl
  where
    by : (b : Bool) → same_symbol t s ≡ b → same_symbol t s ≡ false
    by true f = clash (same_symbol s t) (ap (same_symbol s) (same_symbol_sound t s f) ∙ same_symbol_itself s) h
    by false f = f

different_push : (ss : List SymbolValue) (s : SymbolValue) → Different ss → list_any (same_symbol s) ss ≡ false → Different (ss ++ s ∷ [])
different_push [] s d h = (refl, tt)
different_push (t ∷ ss) s d h =
    let n = neither (same_symbol s t) (list_any (same_symbol s) ss) h in
    (none_push (same_symbol t) ss s d.0 (turned s t n.0), different_push ss s d.1 n.1)

different_if : (b : Bool) (known : List SymbolValue) (s : SymbolValue) → (b ≡ false → list_any (same_symbol s) known ≡ false) → Different known → Different (cond b known (known ++ s ∷ []))
different_if true known s h d = d
different_if false known s h d = different_push known s d (h refl)

pub different_symbols : (ss known : List SymbolValue) → Different known → Different (with_symbols known ss)
different_symbols [] known d = d
different_symbols (s ∷ ss) known d =
    different_symbols ss (cond (list_any (same_symbol s) known) known (known ++ s ∷ [])) (different_if (list_any (same_symbol s) known) known s (λ e. e) d)

no_c0 : (ss : List SymbolValue) → list_any is_constant ss ≡ false → list_any (same_symbol c0_symbol) ss ≡ false
no_c0 [] h = refl
no_c0 (s ∷ ss) h =
    let n = neither (is_constant s) (list_any is_constant ss) h in
    by (same_symbol c0_symbol s) refl n.0 (no_c0 ss n.1)
  where
    by : (b : Bool) → same_symbol c0_symbol s ≡ b → is_constant s ≡ false → list_any (same_symbol c0_symbol) ss ≡ false → (b || list_any (same_symbol c0_symbol) ss) ≡ false
    by true f n k = clash (is_constant s) (sym (ap is_constant (same_symbol_sound c0_symbol s f))) n
    by false f n k = k

pub different_constant : (functions : List SymbolValue) → Different functions → Different (with_constant functions)
different_constant functions d = different_if (list_any is_constant functions) functions c0_symbol (λ e. no_c0 functions e) d

-- ---- variables

-- the numbers below n
abbrev pub upto : ℕ → List ℕ
upto zero = []
upto (suc n) = upto n ++ n ∷ []

pub length-upto : (n : ℕ) → length (upto n) ≡ n
length-upto zero = refl
length-upto (suc n) = omega (arith, length-append (upto n) (n ∷ []), length-upto n)

any_upto : (x n : ℕ) → x < n → list_any (eqb x) (upto n) ≡ true
any_upto x zero h = absurd (omega arith)
any_upto x (suc n) h = by (eqb x n) refl (λ lt. any_upto x n lt)
  where
    by : (b : Bool) → eqb x n ≡ b → (x < n → list_any (eqb x) (upto n) ≡ true) → list_any (eqb x) (upto n ++ n ∷ []) ≡ true
    by true e f = any_push (eqb x) (upto n) n e
    by false e f = let lt : x < n = grind (arith, nat_tests) in any_before (eqb x) (upto n) n (f lt)

none_upto : (x n : ℕ) → n ≤ x → list_any (eqb x) (upto n) ≡ false
none_upto x zero h = refl
none_upto x (suc n) h = let ne : eqb x n ≡ false = grind (arith, nat_tests) in none_push (eqb x) (upto n) n (none_upto x n (omega arith)) ne

position_upto : (x n : ℕ) → x < n → position_or_len (eqb x) (upto n) ≡ x
position_upto x zero h = absurd (omega arith)
position_upto x (suc n) h = by (eqb x n) refl (λ lt. position_upto x n lt)
  where
    by : (b : Bool) → eqb x n ≡ b → (x < n → position_or_len (eqb x) (upto n) ≡ x) → position_or_len (eqb x) (upto n ++ n ∷ []) ≡ x
    by true e f =
        let same : x ≡ n = eqb-true x n e in
        position_push (eqb x) (upto n) n (none_upto x n (omega arith)) e ∙ length-upto n ∙ sym same
    by false e f =
        let lt : x < n = grind (arith, nat_tests) in
        sym (position_stays (eqb x) (upto n) (upto n ++ n ∷ []) (any_upto x n lt) (n ∷ [], refl)) ∙ f lt

abbrev pub Small : ℕ → Type 0
Small x = x < 2 ^ 64

decimal-inj : (x y : ℕ) → Small x → Small y → decimal x ≡ decimal y → x ≡ y
decimal-inj x y h k e = sym (decimal_is_IsNumeral x h).1 ∙ ap (digits_value 10) e ∙ (decimal_is_IsNumeral y k).1

tail_of : (xs ys : List ℕ) → 88 ∷ xs ≡ 88 ∷ ys → xs ≡ ys
tail_of xs ys e = cc

same_text : (x y : ℕ) → Small x → Small y → bytes_eq (variable_text x) (variable_text y) ≡ eqb x y
same_text x y h k = by (bytes_eq (variable_text x) (variable_text y)) (eqb x y) refl refl
  where
    by : (a b : Bool) → bytes_eq (variable_text x) (variable_text y) ≡ a → eqb x y ≡ b → a ≡ b
    by true true f e = refl
    by false false f e = refl
    by true false f e =
        let texts : variable_text x ≡ variable_text y = (bytes_eq-Decides (variable_text x) (variable_text y)).0 f in
        let same : x ≡ y = decimal-inj x y h k (tail_of (decimal x) (decimal y) texts) in
        let yes : eqb x y ≡ true = grind (arith, nat_tests) in
        clash (eqb x y) yes e
    by false true f e =
        let same : x ≡ y = eqb-true x y e in
        clash (bytes_eq (variable_text x) (variable_text y)) (ap (λ (z : ℕ). bytes_eq (variable_text x) (variable_text z)) (sym same) ∙ text_itself (variable_text x)) f

any_name : (x : ℕ) (xs : List ℕ) → Small x → AllByRecursion Small xs → list_any (bytes_eq (variable_text x)) (names xs) ≡ list_any (eqb x) xs
any_name x [] h k = refl
any_name x (y ∷ xs) h k =
    ap (λ (b : Bool). b || list_any (bytes_eq (variable_text x)) (names xs)) (same_text x y h k.0) ∙ ap (λ (b : Bool). eqb x y || b) (any_name x xs h k.1)

position_name : (x : ℕ) (xs : List ℕ) → Small x → AllByRecursion Small xs → text_place (variable_text x) (names xs) ≡ position_or_len (eqb x) xs
position_name x [] h k = refl
position_name x (y ∷ xs) h k =
    ap (λ (b : Bool). cond (not b) (1 + text_place (variable_text x) (names xs)) 0) (same_text x y h k.0)
    ∙ ap (λ (n : ℕ). cond (not (eqb x y)) (1 + n) 0) (position_name x xs h k.1)

pub all_push : (P : ℕ → Type 0) (xs : List ℕ) (y : ℕ) → AllByRecursion P xs → P y → AllByRecursion P (xs ++ y ∷ [])
all_push P [] y h k = (k, tt)
all_push P (x ∷ xs) y h k = (h.0, all_push P xs y h.1 k)

pub all_so : (P Q : ℕ → Type 0) (xs : List ℕ) → ((x : ℕ) → P x → Q x) → AllByRecursion P xs → AllByRecursion Q xs
all_so P Q [] f h = tt
all_so P Q (x ∷ xs) f h = (f x h.0, all_so P Q xs f h.1)

small_upto : (n : ℕ) → n ≤ 1024 → AllByRecursion Small (upto n)
small_upto zero h = tt
small_upto (suc n) h = all_push Small (upto n) n (small_upto n (omega arith)) (omega arith)

pub place_is : (x m : ℕ) → x < m → m ≤ 1024 → text_place (variable_text x) (names (upto m)) ≡ x
place_is x m h k = position_name x (upto m) (omega arith) (small_upto m k) ∙ position_upto x m h

pub with_first : (xs seen : List ℕ) → AllByRecursion Small xs → AllByRecursion Small seen → with_variables (names seen) (names xs) ≡ names (first_ones seen xs)
with_first [] seen h k = refl
with_first (x ∷ xs) seen h k =
    ap (λ (b : Bool). with_variables (cond b (names seen) (names seen ++ variable_text x ∷ [])) (names xs)) (any_name x seen h.0 k)
    ∙ by (list_any (eqb x) seen) (with_first xs seen h.1 k) (with_first xs (seen ++ x ∷ []) h.1 (all_push Small seen x k h.0))
  where
    by : (b : Bool) → with_variables (names seen) (names xs) ≡ names (first_ones seen xs) → with_variables (names (seen ++ x ∷ [])) (names xs) ≡ names (first_ones (seen ++ x ∷ []) xs)
        → with_variables (cond b (names seen) (names seen ++ variable_text x ∷ [])) (names xs) ≡ names (cond b (first_ones seen xs) (first_ones (seen ++ x ∷ []) xs))
    by true e f = e
    by false e f = ap (λ (v : List (List ℕ)). with_variables v (names xs)) (sym (map-append (λ z. variable_text z) seen (x ∷ []))) ∙ f

-- variables that are numbered by first occurrence from n on are the numbers below some m
pub record Numbered (n : ℕ) (xs : List ℕ) : Type 0 where
  pub count : ℕ
  pub more : n ≤ count
  pub ones : first_ones (upto n) xs ≡ upto count
  pub below : AllByRecursion (λ x. x < count) xs

pub numbered : (xs : List ℕ) (n : ℕ) → is_numbered_from n xs ≡ true → Numbered n xs
numbered [] n h = record { count = n; more = omega arith; ones = refl; below = tt }
numbered (x ∷ xs) n h = by (ltb x n) refl h (λ k g. numbered xs k g)
  where
    by : (b : Bool) → ltb x n ≡ b → cond b (is_numbered_from n xs) (eqb x n && is_numbered_from (n + 1) xs) ≡ true → ((k : ℕ) → is_numbered_from k xs ≡ true → Numbered k xs) → Numbered n (x ∷ xs)
    by true f g rest =
        let lt : x < n = grind (arith, nat_tests) in
        let r = rest n g in
        record {
          count = r.count;
          more = r.more;
          ones = ap (λ (b : Bool). cond b (first_ones (upto n) xs) (first_ones (upto n ++ x ∷ []) xs)) (any_upto x n lt) ∙ r.ones;
          below = (omega (arith, r.more), r.below);
        }
    by false f g rest =
        let parts = both_parts (eqb x n) (is_numbered_from (n + 1) xs) g in
        let same : x ≡ n = eqb-true x n parts.0 in
        let one : suc n ≡ n + 1 = omega arith in
        let r = rest (suc n) (ap (λ (k : ℕ). is_numbered_from k xs) one ∙ parts.1) in
        record {
          count = r.count;
          more = omega (arith, r.more);
          ones =
              ap (λ (b : Bool). cond b (first_ones (upto n) xs) (first_ones (upto n ++ x ∷ []) xs)) (none_upto x n (omega arith))
              ∙ ap (λ (k : ℕ). first_ones (upto n ++ k ∷ []) xs) same ∙ r.ones;
          below = (omega (arith, r.more), r.below);
        }
