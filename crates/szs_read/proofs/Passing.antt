-- Lines that are passed, one after another, and where nothing goes on.
use Rattle.std.proofs.Common.{Bor, ◌≡◌, ◌+◌, ℕ, List, [], ◌∷◌, ◌++◌, length, take, drop, sym, ap, subst, ◌∙◌, append_assoc, arith}
use Rattle.std.proofs.lemmas.List.{append-nil, length-append, take-append-drop}
use Rattle.std.specs.Prelude.{codes, Bool, false, Option, Some, None, IfSome, IfNone, nat_eq}
use Rattle.std.specs.Option.{option_eq}
use Rattle.std.specs.Cmp.Lexicographic.{pointwise, other_text}
use Rattle.tptp_tokens.specs.Gaps.{IsOneLine}
use Rattle.szs_print.specs.Printable.{IsName}
use Rattle.szs_read.specs.Passes.{IsLine, joined, ArePassed, IsStuck}
use Rattle.szs_read.specs.Reads.{IsNamed}
use Rattle.szs_read.specs.declared.lines.Lines.{Lines}
use Rattle.szs_read.proofs.Cutting.{one_line, some_line, joined_both, taken_front, named_line, same_back}
use Rattle.szs_read.proofs.Options.{if_none}
use Rattle.szs_read.proofs.Symbols.{all_both}

pub none_passed : (a b : Lines) → b ≡ a → ArePassed a b []
none_passed a b e = record {
  each = tt;
  parts = ap (λ (v : Lines). v.rest.now) (sym e);
  count = ap (λ (v : Lines). v.passed) e ∙ omega arith;
}

pub line_passed : (a b : Lines) (line : List ℕ) → IsLine line → a.rest.now ≡ line ++ b.rest.now → b.passed ≡ a.passed + 1 → ArePassed a b (line ∷ [])
line_passed a b line h e n = record {
  each = (h, tt);
  parts = e ∙ ap (λ (v : List ℕ). v ++ b.rest.now) (sym (append-nil line));
  count = n;
}

pub passed_on : (a b c : Lines) (ls ms : List (List ℕ)) → ArePassed a b ls → ArePassed b c ms → ArePassed a c (ls ++ ms)
passed_on a b c ls ms h k = record {
  each = all_both IsLine ls ms h.each k.each;
  parts = h.parts ∙ ap (λ (v : List ℕ). joined ls ++ v) k.parts ∙ sym (append_assoc (joined ls) (joined ms) c.rest.now) ∙ ap (λ (v : List ℕ). v ++ c.rest.now) (sym (joined_both ls ms));
  count = omega (arith, h.count, k.count, length-append ls ms);
}

pub same_front : (x y r : List ℕ) → x ++ r ≡ y ++ r → x ≡ y
same_front x y r e =
    let n : length x ≡ length y = omega (arith, ap length e, length-append x r, length-append y r) in
    sym (taken_front x r) ∙ ap (λ (v : List ℕ). take (length x) v) e ∙ ap (λ (k : ℕ). take k (y ++ r)) n ∙ taken_front y r

pub front_parts : (line left : List ℕ) → take (length line) left ≡ line → left ≡ line ++ drop (length line) left
front_parts line left e = sym (take-append-drop (length line) left) ∙ ap (λ (v : List ℕ). v ++ drop (length line) left) e

-- the next line is none with which bytes that have P go on
pub stuck_at : (P : List ℕ → Type 0) (passed : List (List ℕ)) (left line after more : List ℕ) → P (joined passed ++ more) → IsLine line → left ≡ line ++ after → ((behind : List ℕ) → P (joined passed ++ (line ++ behind)) → ⊥) → IsStuck P passed left
stuck_at P passed left line after more b l e h = record {
  more = more;
  begins = b;
  ends = λ m rest behind k f p. h behind (subst (λ (v : List ℕ). P (joined passed ++ (v ++ behind))) (one_line m line rest after k l (sym f ∙ e)).0 p);
  short = λ f p. some_line line after l (sym e ∙ f);
}

-- there is no next line
pub stuck_none : (P : List ℕ → Type 0) (passed : List (List ℕ)) (left more : List ℕ) → P (joined passed ++ more) → ((line rest : List ℕ) → IsLine line → left ≡ line ++ rest → ⊥) → (P (joined passed) → ⊥) → IsStuck P passed left
stuck_none P passed left more b n h = record {
  more = more;
  begins = b;
  ends = λ line rest behind k f p. n line rest k f;
  short = λ f p. h p;
}

-- ---- lines that end with a name

pub named_passed : (a b : Lines) (line head name : List ℕ) → IsNamed line head name → a.rest.now ≡ line ++ b.rest.now → b.passed ≡ a.passed + 1 → IsOneLine head → ArePassed a b ((head ++ name ++ codes "\n") ∷ [])
named_passed a b line head name n e p h = line_passed a b (head ++ name ++ codes "\n") (named_line head name h n.named) (e ∙ ap (λ (v : List ℕ). v ++ b.rest.now) n.text) p

-- the next line is another
pub other_line : (left line head name rest : List ℕ) → IsLine line → take (length line) left ≡ line → (IsNamed line head name → ⊥) → IsOneLine head → IsName name → left ≡ (head ++ name ++ codes "\n") ++ rest → ⊥
other_line left line head name rest l f other o n e =
    let one = one_line line (head ++ name ++ codes "\n") (drop (length line) left) rest l (named_line head name o n) (sym (front_parts line left f) ∙ e) in
    other (record { named = n; text = one.0 })

pub first_is : (left line m rest : List ℕ) → IsLine line → take (length line) left ≡ line → IsLine m → left ≡ m ++ rest → line ≡ m
first_is left line m rest l f k e = (one_line line m (drop (length line) left) rest l k (sym (front_parts line left f) ∙ e)).0

-- ---- what no line says

pub if_unnamed : {X : Type 0} (o : Option X) (line head : List ℕ) → ((name : List ℕ) → IsNamed line head name → ⊥) → IfNone o ((name : List ℕ) → IsNamed line head name → ⊥)
if_unnamed o line head h = if_none o ((name : List ℕ) → IsNamed line head name → ⊥) h

abbrev Untaken : List ℕ → List ℕ → Type 0
Untaken left head = (name rest : List ℕ) → IsOneLine head → IsName name → left ≡ (head ++ name ++ codes "\n") ++ rest → ⊥

pub if_no_line : {X : Type 0} (o : Option X) (left head : List ℕ) → ((line rest : List ℕ) → IsLine line → left ≡ line ++ rest → ⊥) → IfNone o ((name rest : List ℕ) → IsOneLine head → IsName name → left ≡ (head ++ name ++ codes "\n") ++ rest → ⊥)
if_no_line o left head h = if_none o (Untaken left head) (λ name rest one n e. h (head ++ name ++ codes "\n") rest (named_line head name one n) e)

pub if_other_line : {X : Type 0} (o : Option X) (left line head : List ℕ) → IsLine line → take (length line) left ≡ line → ((name : List ℕ) → IsNamed line head name → ⊥) → IfNone o ((name rest : List ℕ) → IsOneLine head → IsName name → left ≡ (head ++ name ++ codes "\n") ++ rest → ⊥)
if_other_line o left line head l f h = if_none o (Untaken left head) (λ name rest one n e. other_line left line head name rest l f (h name) one n e)

pub same_named : (o : Option (Bor (List ℕ))) (line head : List ℕ) (name : Bor (List ℕ)) (b : Bool) → b ≡ option_eq {T = Bor (List ℕ)} (λ x y. pointwise nat_eq x.now y.now) o (Some name) → b ≡ false
    → IfSome o (λ n. IsNamed line head n.now) → IfNone o ((n : List ℕ) → IsNamed line head n → ⊥) → IsNamed line head name.now → ⊥
same_named None line head name b e f s n h = n name.now h
same_named (Some x) line head name b e f s n h =
    let back = same_back head (x.now ++ codes "\n") (name.now ++ codes "\n") (sym (append_assoc head x.now (codes "\n")) ∙ sym s.text ∙ h.text ∙ append_assoc head name.now (codes "\n")) in
    other_text x.now name.now (sym f ∙ e) (same_front x.now name.now (codes "\n") back)
