-- Symbols with numbers of their own are those that occur, in the order of first occurrence, exactly where their numbers are numbered by first occurrence.
use Rattle.std.proofs.Common.{◌≡◌, ℕ, zero, suc, ◌+◌, ◌<◌, ◌≤◌, Bool, true, false, ◌||◌, cond, eqb, ltb, List, [], ◌∷◌, ◌++◌, length, take, slice_get, get_or, Option, Some, None, refl, sym, ap, ◌∙◌, append_assoc, arith}
use Rattle.std.specs.Prelude.{option_to_list}
use Rattle.std.specs.List.{AllByRecursion, list_any}
use Rattle.std.proofs.lemmas.Bool.{eqb-true}
use Rattle.std.proofs.lemmas.Bool.Decides.{nat_tests}
use Rattle.std.proofs.lemmas.List.{length-append, length-take-le}
use Rattle.std.proofs.lemmas.List.{take_more}
use Rattle.std.proofs.lemmas.Option.{slice_get_within, slice_get-get_or, get_or_from_slice_get}
use Rattle.me_terms.specs.LabelEquality.{same_symbol}
use Rattle.me_terms.specs.LabelEqualityLaws.{same_symbol_sound, same_symbol_itself}
use Rattle.me_terms.specs.Signatures.{with_symbol}
use Rattle.me_terms.specs.Values.{SymbolValue}
use Rattle.me_terms.specs.Variables.{first_ones}
use Rattle.problem_checks.specs.ValidityTests.{numbered_on}
use Rattle.tptp_cnf.specs.Meaning.{c0_symbol, with_symbols}
use Rattle.tptp_cnf.specs.Plain.{symbols_at}
use Rattle.problem_checks.specs.PlainTests.{HaveOwnNumbers}
use Rattle.tptp_cnf.proofs.Numbering.{Longer, longer_same, longer_on, symbol_longer}

-- ---- truth values

pub clash : {A : Type 0} (b : Bool) → b ≡ true → b ≡ false → A
clash b h k = let z : true ≡ false = sym h ∙ k in absurd cc

pub or_left : (a b : Bool) → a ≡ true → (a || b) ≡ true
or_left true b h = refl
or_left false b h = absurd cc

pub or_right : (a b : Bool) → b ≡ true → (a || b) ≡ true
or_right true b h = refl
or_right false b h = h

-- ---- how a number stands to the next new one

pub data Order (x n : ℕ) : Type 0 where
  Below : x < n → ltb x n ≡ true → Order x n
  Same : x ≡ n → ltb x n ≡ false → eqb x n ≡ true → Order x n
  Above : n < x → ltb x n ≡ false → eqb x n ≡ false → Order x n

pub order : (x n : ℕ) → Order x n
order x n = by (ltb x n) (eqb x n) refl refl
  where
    by : (a b : Bool) → ltb x n ≡ a → eqb x n ≡ b → Order x n
    by true b e f = Below (grind (arith, nat_tests)) e
    by false true e f = Same (eqb-true x n f) e f
    by false false e f = Above (grind (arith, nat_tests)) e f

abbrev on_by : Bool → Bool → ℕ → List ℕ → Option ℕ
on_by below same n xs = cond below (numbered_on n xs) (cond same (numbered_on (n + 1) xs) None)

below_on : (x n : ℕ) (xs : List ℕ) → ltb x n ≡ true → numbered_on n (x ∷ xs) ≡ numbered_on n xs
below_on x n xs e = ap (λ (b : Bool). on_by b (eqb x n) n xs) e

same_on : (x n : ℕ) (xs : List ℕ) → ltb x n ≡ false → eqb x n ≡ true → numbered_on n (x ∷ xs) ≡ numbered_on (n + 1) xs
same_on x n xs e f = ap (λ (b : Bool). on_by b (eqb x n) n xs) e ∙ ap (λ (b : Bool). on_by false b n xs) f

above_on : (x n : ℕ) (xs : List ℕ) → ltb x n ≡ false → eqb x n ≡ false → numbered_on n (x ∷ xs) ≡ None
above_on x n xs e f = ap (λ (b : Bool). on_by b (eqb x n) n xs) e ∙ ap (λ (b : Bool). on_by false b n xs) f

-- ---- symbols with numbers of their own

apart : (symbols : List SymbolValue) → HaveOwnNumbers symbols → (i j : ℕ) (s : SymbolValue) → slice_get symbols i ≡ Some s → slice_get symbols j ≡ Some s → i < j → ⊥
apart symbols d i j s e f lt = omega (arith, d i s e, d j s f, lt)

any_taken : (symbols : List SymbolValue) (n : ℕ) (s : SymbolValue) → list_any (same_symbol s) (take n symbols) ≡ true → (i : ℕ) × (i < n) × (slice_get symbols i ≡ Some s)
any_taken [] zero s h = absurd cc
any_taken [] (suc n) s h = absurd cc
any_taken (t ∷ ts) zero s h = absurd cc
any_taken (t ∷ ts) (suc n) s h = by (same_symbol s t) refl h (λ k. any_taken ts n s k)
  where
    by : (b : Bool) → same_symbol s t ≡ b → (b || list_any (same_symbol s) (take n ts)) ≡ true → (list_any (same_symbol s) (take n ts) ≡ true → (i : ℕ) × (i < n) × (slice_get ts i ≡ Some s))
        → (i : ℕ) × (i < suc n) × (slice_get (t ∷ ts) i ≡ Some s)
    by true e k later = (0, omega arith, ap (λ (x : SymbolValue). Some x) (sym (same_symbol_sound s t e)))
    by false e k later = let r = later k in (suc r.0, omega (arith, r.1), r.2)

taken_any : (symbols : List SymbolValue) (n x : ℕ) (s : SymbolValue) → x < n → slice_get symbols x ≡ Some s → list_any (same_symbol s) (take n symbols) ≡ true
taken_any [] n x s lt e = absurd cc
taken_any (t ∷ ts) zero x s lt e = absurd (omega (arith, lt))
taken_any (t ∷ ts) (suc n) zero s lt e =
    let same : t ≡ s = cc in
    or_left (same_symbol s t) (list_any (same_symbol s) (take n ts)) (ap (same_symbol s) same ∙ same_symbol_itself s)
taken_any (t ∷ ts) (suc n) (suc x) s lt e = or_right (same_symbol s t) (list_any (same_symbol s) (take n ts)) (taken_any ts n x s (omega (arith, lt)) e)

taken_none : (symbols : List SymbolValue) → HaveOwnNumbers symbols → (n x : ℕ) (s : SymbolValue) → n ≤ x → slice_get symbols x ≡ Some s → list_any (same_symbol s) (take n symbols) ≡ false
taken_none symbols d n x s le e = by (list_any (same_symbol s) (take n symbols)) refl
  where
    by : (b : Bool) → list_any (same_symbol s) (take n symbols) ≡ b → list_any (same_symbol s) (take n symbols) ≡ false
    by true h = let r = any_taken symbols n s h in absurd (apart symbols d r.0 x s r.2 e (omega (arith, r.1, le)))
    by false h = h

with_by : (b : Bool) (known : List SymbolValue) (s : SymbolValue) → list_any (same_symbol s) known ≡ b → with_symbol known s ≡ cond b known (known ++ s ∷ [])
with_by b known s e = ap (λ (x : Bool). cond x known (known ++ s ∷ [])) e

pub taken_more : (symbols : List SymbolValue) (n : ℕ) (s : SymbolValue) → slice_get symbols n ≡ Some s → take n symbols ++ s ∷ [] ≡ take (n + 1) symbols
taken_more symbols n s e =
    ap (λ (t : SymbolValue). take n symbols ++ t ∷ []) (sym (get_or_from_slice_get symbols n s s e)) ∙ sym (take_more symbols n s (slice_get_within symbols n s e))

-- what one more number adds to the first n symbols
one_more : (symbols : List SymbolValue) (n x : ℕ) (xs : List ℕ) (s : SymbolValue) → slice_get symbols x ≡ Some s
    → with_symbols (take n symbols) (symbols_at symbols (x ∷ xs)) ≡ with_symbols (with_symbol (take n symbols) s) (symbols_at symbols xs)
one_more symbols n x xs s e = ap (λ (o : Option SymbolValue). with_symbols (take n symbols) (option_to_list o ++ symbols_at symbols xs)) e

below_added : (symbols : List SymbolValue) (n x : ℕ) (xs : List ℕ) (s : SymbolValue) → x < n → slice_get symbols x ≡ Some s
    → with_symbols (take n symbols) (symbols_at symbols (x ∷ xs)) ≡ with_symbols (take n symbols) (symbols_at symbols xs)
below_added symbols n x xs s lt e =
    one_more symbols n x xs s e ∙ ap (λ (k : List SymbolValue). with_symbols k (symbols_at symbols xs)) (with_by true (take n symbols) s (taken_any symbols n x s lt e))

new_added : (symbols : List SymbolValue) → HaveOwnNumbers symbols → (n x : ℕ) (xs : List ℕ) (s : SymbolValue) → n ≤ x → slice_get symbols x ≡ Some s
    → with_symbols (take n symbols) (symbols_at symbols (x ∷ xs)) ≡ with_symbols (take n symbols ++ s ∷ []) (symbols_at symbols xs)
new_added symbols d n x xs s le e =
    one_more symbols n x xs s e ∙ ap (λ (k : List SymbolValue). with_symbols k (symbols_at symbols xs)) (with_by false (take n symbols) s (taken_none symbols d n x s le e))

same_added : (symbols : List SymbolValue) → HaveOwnNumbers symbols → (n x : ℕ) (xs : List ℕ) (s : SymbolValue) → x ≡ n → slice_get symbols x ≡ Some s
    → with_symbols (take n symbols) (symbols_at symbols (x ∷ xs)) ≡ with_symbols (take (n + 1) symbols) (symbols_at symbols xs)
same_added symbols d n x xs s is e =
    new_added symbols d n x xs s (omega (arith, is)) e
    ∙ ap (λ (k : List SymbolValue). with_symbols k (symbols_at symbols xs)) (taken_more symbols n s (ap (slice_get symbols) (sym is) ∙ e))

-- there is a symbol of this number
there : (symbols : List SymbolValue) (x : ℕ) → x < length symbols → (s : SymbolValue) × (slice_get symbols x ≡ Some s)
there symbols x lt = (get_or symbols x c0_symbol, slice_get-get_or symbols x c0_symbol lt)

abbrev pub Within : List SymbolValue → List ℕ → Type 0
Within symbols numbers = AllByRecursion (λ x. x < length symbols) numbers

-- numbers that are numbered by first occurrence are those of the first symbols
abbrev AreMet : List SymbolValue → List ℕ → ℕ → ℕ → Type 0
AreMet symbols xs m n = n ≤ length symbols → numbered_on n xs ≡ Some m → with_symbols (take n symbols) (symbols_at symbols xs) ≡ take m symbols

met_by : (symbols : List SymbolValue) → HaveOwnNumbers symbols → (x : ℕ) (xs : List ℕ) → x < length symbols → (n m : ℕ) → ((k : ℕ) → AreMet symbols xs m k) → Order x n → AreMet symbols (x ∷ xs) m n
met_by symbols d x xs w n m rest (Below lt f) le e =
    let s = there symbols x w in
    below_added symbols n x xs s.0 lt s.1 ∙ rest n le (sym (below_on x n xs f) ∙ e)
met_by symbols d x xs w n m rest (Same is f g) le e =
    let s = there symbols x w in
    same_added symbols d n x xs s.0 is s.1 ∙ rest (n + 1) (omega (arith, is, w)) (sym (same_on x n xs f g) ∙ e)
met_by symbols d x xs w n m rest (Above gt f g) le e = let no : None ≡ Some m = sym (above_on x n xs f g) ∙ e in absurd cc

pub met : (symbols : List SymbolValue) → HaveOwnNumbers symbols → (xs : List ℕ) → Within symbols xs → (n m : ℕ) → n ≤ length symbols → numbered_on n xs ≡ Some m → with_symbols (take n symbols) (symbols_at symbols xs) ≡ take m symbols
met symbols d [] w n m le e = let same : n ≡ m = cc in ap (λ (k : ℕ). take k symbols) same
met symbols d (x ∷ xs) w n m le e = met_by symbols d x xs w.0 n m (λ k l g. met symbols d xs w.1 k m l g) (order x n) le e

symbols_longer : (ss known : List SymbolValue) → Longer known (with_symbols known ss)
symbols_longer [] known = longer_same known
symbols_longer (s ∷ ss) known = longer_on known (with_symbol known s) (with_symbols known (s ∷ ss)) (symbol_longer known s) (symbols_longer ss (with_symbol known s))

at_end : (xs ys : List SymbolValue) (s : SymbolValue) → slice_get ((xs ++ s ∷ []) ++ ys) (length xs) ≡ Some s
at_end [] ys s = refl
at_end (x ∷ xs) ys s = at_end xs ys s

-- The first symbols with those of these numbers, and some more, are all symbols. Then the numbers are numbered by first occurrence.
pub record Met (symbols : List SymbolValue) (more : List SymbolValue) (n : ℕ) (xs : List ℕ) : Type 0 where
  pub count : ℕ
  pub numbered : numbered_on n xs ≡ Some count
  pub all : count + length more ≡ length symbols

abbrev IfAll : List SymbolValue → List SymbolValue → List ℕ → ℕ → Type 0
IfAll symbols more xs n = n ≤ length symbols → with_symbols (take n symbols) (symbols_at symbols xs) ++ more ≡ symbols → Met symbols more n xs

numbered_by : (symbols more : List SymbolValue) → HaveOwnNumbers symbols → (x : ℕ) (xs : List ℕ) → x < length symbols → (n : ℕ) → ((k : ℕ) → IfAll symbols more xs k) → Order x n → IfAll symbols more (x ∷ xs) n
numbered_by symbols more d x xs w n rest (Below lt f) le e =
    let s = there symbols x w in
    let r = rest n le (ap (λ (k : List SymbolValue). k ++ more) (sym (below_added symbols n x xs s.0 lt s.1)) ∙ e) in
    record { count = r.count; numbered = below_on x n xs f ∙ r.numbered; all = r.all }
numbered_by symbols more d x xs w n rest (Same is f g) le e =
    let s = there symbols x w in
    let r = rest (n + 1) (omega (arith, is, w)) (ap (λ (k : List SymbolValue). k ++ more) (sym (same_added symbols d n x xs s.0 is s.1)) ∙ e) in
    record { count = r.count; numbered = same_on x n xs f g ∙ r.numbered; all = r.all }
numbered_by symbols more d x xs w n rest (Above gt f g) le e =
    let s = there symbols x w in
    let known : List SymbolValue = take n symbols ++ s.0 ∷ [] in
    let longer = symbols_longer (symbols_at symbols xs) known in
    let whole : (known ++ longer.0) ++ more ≡ symbols =
    ap (λ (k : List SymbolValue). k ++ more) (sym longer.1) ∙ ap (λ (k : List SymbolValue). k ++ more) (sym (new_added symbols d n x xs s.0 (omega (arith, gt)) s.1)) ∙ e in
    let here : slice_get symbols n ≡ Some s.0 =
    ap (slice_get symbols) (sym (length-take-le n symbols le)) ∙ ap (λ (k : List SymbolValue). slice_get k (length (take n symbols))) (sym whole ∙ append_assoc known longer.0 more)
    ∙ at_end (take n symbols) (longer.0 ++ more) s.0 in
    absurd (apart symbols d n x s.0 here s.1 gt)

pub numbered_if : (symbols more : List SymbolValue) → HaveOwnNumbers symbols → (xs : List ℕ) → Within symbols xs → (n : ℕ) → n ≤ length symbols → with_symbols (take n symbols) (symbols_at symbols xs) ++ more ≡ symbols → Met symbols more n xs
numbered_if symbols more d [] w n le e =
    record { count = n; numbered = refl; all = omega (arith, ap length e, length-append (take n symbols) more, length-take-le n symbols le) }
numbered_if symbols more d (x ∷ xs) w n le e = numbered_by symbols more d x xs w.0 n (λ k l g. numbered_if symbols more d xs w.1 k l g) (order x n) le e

-- ---- variables

-- so many numbers, those below n
record Seen (n : ℕ) (seen : List ℕ) : Type 0 where
  count : length seen ≡ n
  those : (x : ℕ) → list_any (eqb x) seen ≡ ltb x n

seen_more : (n x : ℕ) (seen : List ℕ) → x ≡ n → Seen n seen → Seen (n + 1) (seen ++ x ∷ [])
seen_more n x seen is s = record {
  count = omega (arith, length-append seen (x ∷ []), s.count);
  those = λ y. any_push seen y ∙ ap (λ (b : Bool). b || (eqb y x || false)) (s.those y) ∙ below y;
}
  where
    any_push : (xs : List ℕ) (y : ℕ) → list_any (eqb y) (xs ++ x ∷ []) ≡ (list_any (eqb y) xs || (eqb y x || false))
    any_push [] y = refl
    any_push (z ∷ xs) y = ap (λ (b : Bool). eqb y z || b) (any_push xs y) ∙ joined (eqb y z) (list_any (eqb y) xs) (eqb y x || false)
      where
        joined : (a b c : Bool) → (a || (b || c)) ≡ ((a || b) || c)
        joined true b c = refl
        joined false b c = refl

    below : (y : ℕ) → (ltb y n || (eqb y x || false)) ≡ ltb y (n + 1)
    below y = by (ltb y n) (eqb y x) refl refl
      where
        by : (a b : Bool) → ltb y n ≡ a → eqb y x ≡ b → (a || (b || false)) ≡ ltb y (n + 1)
        by true b e f = sym (grind (arith, nat_tests))
        by false true e f = let same : y ≡ x = eqb-true y x f in sym (grind (arith, nat_tests))
        by false false e f = sym (grind (arith, nat_tests))

abbrev Ones : List ℕ → ℕ → List ℕ → ℕ → Type 0
Ones xs m seen n = Seen n seen → numbered_on n xs ≡ Some m → length (first_ones seen xs) ≡ m

ones_step : (x n : ℕ) (xs seen : List ℕ) (b : Bool) → Seen n seen → ltb x n ≡ b → length (first_ones seen (x ∷ xs)) ≡ length (cond b (first_ones seen xs) (first_ones (seen ++ x ∷ []) xs))
ones_step x n xs seen b s f = ap (λ (c : Bool). length (cond c (first_ones seen xs) (first_ones (seen ++ x ∷ []) xs))) (s.those x ∙ f)

ones_by : (x n m : ℕ) (xs seen : List ℕ) → ((known : List ℕ) (k : ℕ) → Ones xs m known k) → Order x n → Ones (x ∷ xs) m seen n
ones_by x n m xs seen rest (Below lt f) s e = ones_step x n xs seen true s f ∙ rest seen n s (sym (below_on x n xs f) ∙ e)
ones_by x n m xs seen rest (Same is f g) s e = ones_step x n xs seen false s f ∙ rest (seen ++ x ∷ []) (n + 1) (seen_more n x seen is s) (sym (same_on x n xs f g) ∙ e)
ones_by x n m xs seen rest (Above gt f g) s e = let no : None ≡ Some m = sym (above_on x n xs f g) ∙ e in absurd cc

seen_ones : (xs seen : List ℕ) (n m : ℕ) → Seen n seen → numbered_on n xs ≡ Some m → length (first_ones seen xs) ≡ m
seen_ones [] seen n m s e = let same : n ≡ m = cc in s.count ∙ same
seen_ones (x ∷ xs) seen n m s e = ones_by x n m xs seen (λ known k t g. seen_ones xs known k m t g) (order x n) s e

-- how many different numbers there are
pub different_ones : (xs : List ℕ) (m : ℕ) → numbered_on 0 xs ≡ Some m → length (first_ones [] xs) ≡ m
different_ones xs m e = seen_ones xs [] 0 m (record { count = refl; those = λ x. none x }) e
  where
    none : (x : ℕ) → false ≡ ltb x 0
    none x = sym (grind (arith, nat_tests))
