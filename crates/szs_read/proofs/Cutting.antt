-- Bytes are cut into whole lines in only one way.
use Rattle.std.proofs.Common.{◌≡◌, ◌≢◌, ◌<◌, ◌≤◌, ◌+◌, ℕ, zero, suc, Bool, true, false, List, [], ◌∷◌, ◌++◌, length, take, get_or, refl, sym, ap, subst, ◌∙◌, append_assoc, arith}
use Rattle.std.proofs.lemmas.Bool.Decides.{nat_tests}
use Rattle.std.proofs.lemmas.List.{append-nil, length-append}
use Rattle.std.proofs.lemmas.List.Elements.{recursion_from_All}
use Rattle.std.specs.Prelude.{codes, ◌==◌, if◌then◌else◌}
use Rattle.std.specs.List.{AllByRecursion}
use Rattle.tptp_tokens.specs.Gaps.{IsOneLine}
use Rattle.tptp_tokens.proofs.Runs.{heads}
use Rattle.szs_print.specs.Printable.{IsName}
use Rattle.szs_read.specs.Lines.{lines, before_lines}
use Rattle.szs_read.specs.Passes.{IsLine, joined}
use Rattle.szs_read.proofs.Symbols.{all_both}

one_text : (t u : List ℕ) (r s : List ℕ) → IsOneLine t → IsOneLine u → (t ++ 10 ∷ []) ++ r ≡ (u ++ 10 ∷ []) ++ s → (t ≡ u) × (r ≡ s)
one_text [] [] r s h k e = (refl, (heads 10 10 r s e).1)
one_text [] (b ∷ u) r s h k e = absurd (k.0 (sym (heads 10 b r ((u ++ 10 ∷ []) ++ s) e).0))
one_text (b ∷ t) [] r s h k e = absurd (h.0 (heads b 10 ((t ++ 10 ∷ []) ++ r) s e).0)
one_text (b ∷ t) (c ∷ u) r s h k e =
    let x = heads b c ((t ++ 10 ∷ []) ++ r) ((u ++ 10 ∷ []) ++ s) e in
    let y = one_text t u r s h.1 k.1 x.1 in
    (ap (λ (n : ℕ). n ∷ t) x.0 ∙ ap (λ (v : List ℕ). c ∷ v) y.0, y.1)

pub one_line : (l m r s : List ℕ) → IsLine l → IsLine m → l ++ r ≡ m ++ s → (l ≡ m) × (r ≡ s)
one_line l m r s h k e =
    let x = one_text h.0 k.0 r s h.2 k.2 (ap (λ (v : List ℕ). v ++ r) (sym h.1) ∙ e ∙ ap (λ (v : List ℕ). v ++ s) k.1) in
    (h.1 ∙ ap (λ (v : List ℕ). v ++ 10 ∷ []) x.0 ∙ sym k.1, x.1)

pub some_line : (l r : List ℕ) → IsLine l → l ++ r ≡ [] → ⊥
some_line l r h e = absurd (omega (arith, ap length e, length-append l r, ap length h.1, length-append h.0 (10 ∷ [])))

pub joined_both : (ls ms : List (List ℕ)) → joined (ls ++ ms) ≡ joined ls ++ joined ms
joined_both [] ms = refl
joined_both (l ∷ ls) ms = ap (λ (v : List ℕ). l ++ v) (joined_both ls ms) ∙ sym (append_assoc l (joined ls) (joined ms))

pub joined_push : (ls : List (List ℕ)) (l rest : List ℕ) → joined (ls ++ l ∷ []) ++ rest ≡ joined ls ++ (l ++ rest)
joined_push ls l rest =
    ap (λ (v : List ℕ). v ++ rest) (joined_both ls (l ∷ []) ∙ ap (λ (v : List ℕ). joined ls ++ v) (append-nil l))
    ∙ append_assoc (joined ls) l rest

pub each_push : (ls : List (List ℕ)) (l : List ℕ) → AllByRecursion IsLine ls → IsLine l → AllByRecursion IsLine (ls ++ l ∷ [])
each_push ls l h k = all_both IsLine ls (l ∷ []) h (k, tt)

-- ---- the lines of bytes

lines_text : (t rest : List ℕ) → IsOneLine t → lines ((t ++ 10 ∷ []) ++ rest) ≡ (t ++ 10 ∷ []) ∷ lines rest
lines_text [] rest h = refl
lines_text (b ∷ t) rest h =
    let n : (b == 10) ≡ false = by (b == 10) refl in
    ap (λ (v : Bool). if v then (10 ∷ []) ∷ lines ((t ++ 10 ∷ []) ++ rest) else before_lines b (lines ((t ++ 10 ∷ []) ++ rest))) n
    ∙ ap (before_lines b) (lines_text t rest h.1)
  where
    by : (v : Bool) → (b == 10) ≡ v → (b == 10) ≡ false
    by false e = e
    by true e = absurd (h.0 (grind (arith, nat_tests)))

lines_line : (l rest : List ℕ) → IsLine l → lines (l ++ rest) ≡ l ∷ lines rest
lines_line l rest h =
    ap (λ (v : List ℕ). lines (v ++ rest)) h.1 ∙ lines_text h.0 rest h.2 ∙ ap (λ (v : List ℕ). v ∷ lines rest) (sym h.1)

pub lines_joined : (ls : List (List ℕ)) (rest : List ℕ) → AllByRecursion IsLine ls → lines (joined ls ++ rest) ≡ ls ++ lines rest
lines_joined [] rest h = refl
lines_joined (l ∷ ls) rest h =
    ap lines (append_assoc l (joined ls) rest) ∙ lines_line l (joined ls ++ rest) h.0 ∙ ap (λ (v : List (List ℕ)). l ∷ v) (lines_joined ls rest h.1)

is_ten : (b : ℕ) → (b == 10) ≡ true → b ≡ 10
is_ten b e = grind (arith, nat_tests)

before_joined : (b : ℕ) (ls : List (List ℕ)) → joined (before_lines b ls) ≡ b ∷ joined ls
before_joined b [] = refl
before_joined b (l ∷ ls) = refl

joined_byte : (b : ℕ) (bytes : List ℕ) (v : Bool) → (b == 10) ≡ v → joined (lines bytes) ≡ bytes → joined (if v then (10 ∷ []) ∷ lines bytes else before_lines b (lines bytes)) ≡ b ∷ bytes
joined_byte b bytes true e h = ap (λ (v : List ℕ). 10 ∷ v) h ∙ ap (λ (x : ℕ). x ∷ bytes) (sym (is_ten b e))
joined_byte b bytes false e h = before_joined b (lines bytes) ∙ ap (λ (v : List ℕ). b ∷ v) h

pub joined_lines : (bytes : List ℕ) → joined (lines bytes) ≡ bytes
joined_lines [] = refl
joined_lines (b ∷ bytes) = joined_byte b bytes (b == 10) refl (joined_lines bytes)

pub no_lines : (bytes : List ℕ) → lines bytes ≡ [] → bytes ≡ []
no_lines bytes e = sym (joined_lines bytes) ∙ ap joined e

-- ---- parts of lists

pub taken_front : {X : Type 0} (xs ys : List X) → take (length xs) (xs ++ ys) ≡ xs
taken_front [] ys = refl
taken_front {X} (x ∷ xs) ys = ap (λ (v : List X). x ∷ v) (taken_front xs ys)

pub taken_one : {X : Type 0} (xs ys : List X) (y : X) → take (suc (length xs)) (xs ++ y ∷ ys) ≡ xs ++ y ∷ []
taken_one [] ys y = refl
taken_one {X} (x ∷ xs) ys y = ap (λ (v : List X). x ∷ v) (taken_one xs ys y)

all_front : {X : Type 0} (P : X → Type 0) (xs ys : List X) → AllByRecursion P (xs ++ ys) → AllByRecursion P xs
all_front P [] ys h = tt
all_front P (x ∷ xs) ys h = (h.0, all_front P xs ys h.1)

pub all_last : {X : Type 0} (P : X → Type 0) (xs : List X) (y : X) (ys : List X) → AllByRecursion P (xs ++ y ∷ ys) → P y
all_last P [] y ys h = h.0
all_last P (x ∷ xs) y ys h = all_last P xs y ys h.1

-- ---- one line

pub one_both : (t u : List ℕ) → IsOneLine t → IsOneLine u → IsOneLine (t ++ u)
one_both t u h k = all_both (λ b. b ≢ 10) t u h k

pub name_one : (name : List ℕ) → IsName name → IsOneLine name
name_one name h = by name (recursion_from_All (λ byte. (33 ≤ byte) × (byte ≤ 126)) name h.printed)
  where
    by : (xs : List ℕ) → AllByRecursion (λ byte. (33 ≤ byte) × (byte ≤ 126)) xs → IsOneLine xs
    by [] h = tt
    by (x ∷ xs) h = ((λ e. absurd (omega (arith, e, h.0.0))), by xs h.1)

pub named_line : (head name : List ℕ) → IsOneLine head → IsName name → IsLine (head ++ name ++ codes "\n")
named_line head name h n = (head ++ name, refl, one_both head name h (name_one name n))

-- ---- the first line

take_push : (xs : List ℕ) (k : ℕ) → k < length xs → take (k + 1) xs ≡ take k xs ++ get_or xs k 0 ∷ []
take_push [] k h = absurd (omega (arith, h))
take_push (x ∷ xs) zero h = refl
take_push (x ∷ xs) (suc k) h = let e : suc k + 1 ≡ suc (k + 1) = omega arith in ap (λ (n : ℕ). take n (x ∷ xs)) e ∙ ap (λ (v : List ℕ). x ∷ v) (take_push xs k (omega (arith, h)))

pub one_more : (xs : List ℕ) (k : ℕ) → k < length xs → IsOneLine (take k xs) → (get_or xs k 0 ≡ 10 → ⊥) → IsOneLine (take (k + 1) xs)
one_more xs k h o n = subst IsOneLine (sym (take_push xs k h)) (one_both (take k xs) (get_or xs k 0 ∷ []) o (n, tt))

pub line_taken : (xs : List ℕ) (k : ℕ) → k < length xs → IsOneLine (take k xs) → get_or xs k 0 ≡ 10 → IsLine (take (k + 1) xs)
line_taken xs k h o e = (take k xs, take_push xs k h ∙ ap (λ (b : ℕ). take k xs ++ b ∷ []) e, o)

pub no_line_in : (xs line rest : List ℕ) → IsOneLine xs → IsLine line → xs ≡ line ++ rest → ⊥
no_line_in xs line rest o h e =
    all_last (λ b. b ≢ 10) h.0 10 rest (subst IsOneLine (e ∙ ap (λ (v : List ℕ). v ++ rest) h.1 ∙ append_assoc h.0 (10 ∷ []) rest) o) refl

pub same_back : (h x y : List ℕ) → h ++ x ≡ h ++ y → x ≡ y
same_back [] x y e = e
same_back (b ∷ h) x y e = same_back h x y (heads b b (h ++ x) (h ++ y) e).1
