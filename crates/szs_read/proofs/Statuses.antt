-- Which line can come first in an answer, and what can come behind it.
use Rattle.std.proofs.Common.{◌≡◌, ◌≤◌, ℕ, List, [], ◌∷◌, ◌++◌, length, take, drop, get_or, Option, refl, sym, ap, subst, ◌∙◌, append_assoc, arith}
use Rattle.std.proofs.lemmas.List.{append-nil}
use Rattle.std.specs.Prelude.{codes, IfNone}
use Rattle.std.proofs.lemmas.List.Elements.{All-from_recursion}
use Rattle.me_terms.specs.Values.{SignatureValue}
use Rattle.me_terms.specs.declared.bounds.Bound.{Bound}
use Rattle.me_terms.specs.declared.bounds.Bound.TheVariants.{Depth}
use Rattle.me_terms.specs.declared.bounds.Start.{Start}
use Rattle.me_terms.specs.declared.bounds.Start.TheVariants.{Negative, Positive}
use Rattle.szs_print.specs.AnswerText.{bound_text}
use Rattle.szs_print.specs.Printable.{IsName}
use Rattle.szs_print.specs.StatusText.{status_line, reason_line}
use Rattle.szs_read.specs.ClaimText.{start_line, claim_word, claim_body}
use Rattle.szs_read.specs.Passes.{IsLine, joined, ArePassed, AreStuck, AreWhole, IsBody, IsSomeAnswer}
use Rattle.szs_read.specs.Reads.{IsReadBody}
use Rattle.szs_read.specs.declared.claim.Claim.{Claim}
use Rattle.szs_read.specs.declared.claim.Claim.TheVariants.{Refuted, Model, Open}
use Rattle.szs_read.specs.declared.lines.Lines.{Lines}
use Rattle.szs_read.proofs.Cutting.{one_line, some_line, named_line}
use Rattle.szs_read.proofs.Grown.{grown_none}
use Rattle.szs_read.proofs.OneLines.{coded, start_one, reason_one}
use Rattle.szs_read.proofs.Options.{if_none}
use Rattle.szs_read.proofs.Passing.{same_front, passed_on, none_passed, first_is}

-- ---- the status

pub refuted_one : (name : List ℕ) → IsName name → IsLine (status_line (codes "Unsatisfiable") name)
refuted_one name n = named_line (codes "% SZS status Unsatisfiable for ") name (coded (codes "% SZS status Unsatisfiable for ") refl) n

pub model_one : (name : List ℕ) → IsName name → IsLine (status_line (codes "Satisfiable") name)
model_one name n = named_line (codes "% SZS status Satisfiable for ") name (coded (codes "% SZS status Satisfiable for ") refl) n

pub open_one : (name : List ℕ) → IsName name → IsLine (status_line (codes "GaveUp") name)
open_one name n = named_line (codes "% SZS status GaveUp for ") name (coded (codes "% SZS status GaveUp for ") refl) n

pub status_one : (claim : Claim) (name : List ℕ) → IsName name → IsLine (status_line (claim_word claim) name)
status_one (Refuted lines) name n = refuted_one name n
status_one (Model start lines) name n = model_one name n
status_one (Open bound) name n = open_one name n

-- one of the three words
pub data IsWord : List ℕ → Type 0 where
  refuted : IsWord (codes "Unsatisfiable")
  model : IsWord (codes "Satisfiable")
  gave_up : IsWord (codes "GaveUp")

claim_is : (claim : Claim) → IsWord (claim_word claim)
claim_is (Refuted lines) = refuted
claim_is (Model start lines) = model
claim_is (Open bound) = gave_up

word_one : (word name : List ℕ) → IsWord word → IsName name → IsLine (status_line word name)
word_one word name refuted n = refuted_one name n
word_one word name model n = model_one name n
word_one word name gave_up n = open_one name n

other_byte : (xs ys : List ℕ) → xs ≡ ys → (get_or xs 13 0 ≡ get_or ys 13 0 → ⊥) → ⊥
other_byte xs ys e h = h (ap (λ (v : List ℕ). get_or v 13 0) e)

same_name : (xs ys : List ℕ) → xs ++ codes "\n" ≡ ys ++ codes "\n" → xs ≡ ys
same_name xs ys e = same_front xs ys (codes "\n") e

same_status : (v w x y : List ℕ) → IsWord v → IsWord w → status_line v x ≡ status_line w y → (v ≡ w) × (x ≡ y)
same_status v w x y refuted refuted e = (refl, same_name x y (ap (drop 31) e))
same_status v w x y model model e = (refl, same_name x y (ap (drop 29) e))
same_status v w x y gave_up gave_up e = (refl, same_name x y (ap (drop 24) e))
same_status v w x y refuted model e = absurd (other_byte (status_line (codes "Unsatisfiable") x) (status_line (codes "Satisfiable") y) e (λ h. absurd (omega (arith, h))))
same_status v w x y refuted gave_up e = absurd (other_byte (status_line (codes "Unsatisfiable") x) (status_line (codes "GaveUp") y) e (λ h. absurd (omega (arith, h))))
same_status v w x y model refuted e = absurd (other_byte (status_line (codes "Satisfiable") x) (status_line (codes "Unsatisfiable") y) e (λ h. absurd (omega (arith, h))))
same_status v w x y model gave_up e = absurd (other_byte (status_line (codes "Satisfiable") x) (status_line (codes "GaveUp") y) e (λ h. absurd (omega (arith, h))))
same_status v w x y gave_up refuted e = absurd (other_byte (status_line (codes "GaveUp") x) (status_line (codes "Unsatisfiable") y) e (λ h. absurd (omega (arith, h))))
same_status v w x y gave_up model e = absurd (other_byte (status_line (codes "GaveUp") x) (status_line (codes "Satisfiable") y) e (λ h. absurd (omega (arith, h))))

-- ---- what comes behind the status

to_body : (old : SignatureValue) (word name X : List ℕ) → IsWord word → IsName name → IsSomeAnswer old (status_line word name ++ X) → IsBody old word name X
to_body old word name X w n h =
    let a = h.2 in
    let claim : Claim = h.1 in
    let one = one_line (status_line word name) (status_line (claim_word claim) a.name) X (claim_body h.0 a.name claim) (word_one word name w n) (status_one claim a.name a.named) a.text in
    let same = same_status word (claim_word claim) name a.name w (claim_is claim) one.0 in (
      h.0,
      claim,
      record {
        status = sym same.0;
        lawful = a.lawful;
        grown = a.grown;
        text = one.1 ∙ ap (λ (v : List ℕ). claim_body h.0 v claim) (sym same.1);
      },
    )

from_body : (old : SignatureValue) (word name X : List ℕ) → IsName name → IsBody old word name X → IsSomeAnswer old (status_line word name ++ X)
from_body old word name X n h =
    let b = h.2 in (
      h.0,
      h.1,
      record {
        name = name;
        named = n;
        text = ap (λ (v : List ℕ). status_line word name ++ v) b.text ∙ ap (λ (v : List ℕ). status_line v name ++ claim_body h.0 name h.1) (sym b.status);
        lawful = b.lawful;
        grown = b.grown;
      },
    )

behind_status : (status X : List ℕ) (passed : List (List ℕ)) → joined (status ∷ passed) ++ X ≡ status ++ (joined passed ++ X)
behind_status status X passed = append_assoc status (joined passed) X

pub stuck_behind : (old : SignatureValue) (word name : List ℕ) (a b c : Lines) → IsWord word → IsName name → ArePassed a b (status_line word name ∷ []) → AreStuck (IsBody old word name) b c → AreStuck (IsSomeAnswer old) a c
stuck_behind old word name a b c w n p s =
    let line : List ℕ = status_line word name in
    let down : (X : List ℕ) → IsSomeAnswer old (joined (line ∷ s.passed) ++ X) → IsBody old word name (joined s.passed ++ X) =
    λ X h. to_body old word name (joined s.passed ++ X) w n (subst (IsSomeAnswer old) (behind_status line X s.passed) h) in
    record {
      passed = line ∷ s.passed;
      are = passed_on a b c (line ∷ []) s.passed p s.are;
      stuck = record {
        more = s.stuck.more;
        begins = subst (IsSomeAnswer old) (sym (behind_status line s.stuck.more s.passed)) (from_body old word name (joined s.passed ++ s.stuck.more) n s.stuck.begins);
        ends = λ m rest behind l e q. s.stuck.ends m rest behind l e (down (m ++ behind) q);
        short = λ e q. s.stuck.short e (to_body old word name (joined s.passed) w n q);
      };
    }

pub whole_behind : (old : SignatureValue) (word name : List ℕ) (a b c : Lines) → IsWord word → IsName name → ArePassed a b (status_line word name ∷ []) → AreWhole (IsBody old word name) b c → AreWhole (IsSomeAnswer old) a c
whole_behind old word name a b c w n p s =
    let line : List ℕ = status_line word name in
    record {
      passed = line ∷ s.passed;
      are = passed_on a b c (line ∷ []) s.passed p s.are;
      only = λ X h. s.only X (to_body old word name (joined s.passed ++ X) w n (subst (IsSomeAnswer old) (behind_status line X s.passed) h));
    }

-- ---- no status

some_name : IsName (codes "x")
some_name = record { some = omega arith; few = omega arith; printed = All-from_recursion (λ (byte : ℕ). (33 ≤ byte) × (byte ≤ 126)) (codes "x") ((omega arith, omega arith), tt) }

-- a search that gave up, as the least answer
least : (old : SignatureValue) → IsSomeAnswer old (status_line (codes "GaveUp") (codes "x") ++ reason_line (bound_text Depth))
least old = (old, Open Depth, record { name = codes "x"; named = some_name; text = refl; lawful = tt; grown = grown_none old })

pub stuck_status : (old : SignatureValue) (a b : Lines) → b ≡ a
    → ((name rest : List ℕ) → IsName name → a.rest.now ≡ status_line (codes "Unsatisfiable") name ++ rest → ⊥)
    → ((name rest : List ℕ) → IsName name → a.rest.now ≡ status_line (codes "Satisfiable") name ++ rest → ⊥)
    → ((name rest : List ℕ) → IsName name → a.rest.now ≡ status_line (codes "GaveUp") name ++ rest → ⊥)
    → AreStuck (IsSomeAnswer old) a b
stuck_status old a b same r m g = record {
  passed = [];
  are = none_passed a b same;
  stuck = record {
    more = status_line (codes "GaveUp") (codes "x") ++ reason_line (bound_text Depth);
    begins = least old;
    ends = λ line rest behind l e h.
        let x = h.2 in
        let one = one_line line (status_line (claim_word h.1) x.name) behind (claim_body h.0 x.name h.1) l (status_one h.1 x.name x.named) x.text in
        by h.1 x.name rest x.named (sym (ap (λ (v : Lines). v.rest.now) same) ∙ e ∙ ap (λ (v : List ℕ). v ++ rest) one.0);
    short = λ e h. some_line (status_line (claim_word h.1) h.2.name) (claim_body h.0 h.2.name h.1) (status_one h.1 h.2.name h.2.named) (sym h.2.text);
  };
}
  where
    by : (claim : Claim) (name rest : List ℕ) → IsName name → a.rest.now ≡ status_line (claim_word claim) name ++ rest → ⊥
    by (Refuted lines) name rest n e = r name rest n e
    by (Model start lines) name rest n e = m name rest n e
    by (Open bound) name rest n e = g name rest n e

-- ---- the line of a bound

body_as : (old new : SignatureValue) (name bytes : List ℕ) (claim : Claim) → IsReadBody old new (codes "GaveUp") name bytes claim → (bound : Bound) × (bytes ≡ reason_line (bound_text bound))
body_as old new name bytes (Open bound) h = (bound, h.text)
body_as old new name bytes (Refuted lines) h = let e : ◌≡◌ {A = ℕ} 13 6 = ap length h.status in absurd (omega (arith, e))
body_as old new name bytes (Model start lines) h = let e : ◌≡◌ {A = ℕ} 11 6 = ap length h.status in absurd (omega (arith, e))

pub whole_bound : (old : SignatureValue) (name : List ℕ) (bound : Bound) (a b : Lines) → ArePassed a b (reason_line (bound_text bound) ∷ []) → AreWhole (IsBody old (codes "GaveUp") name) a b
whole_bound old name bound a b p =
    let line : List ℕ = reason_line (bound_text bound) in
    record {
      passed = line ∷ [];
      are = p;
      only = λ behind h.
          let k = body_as old h.0 name (joined (line ∷ []) ++ behind) h.1 h.2 in
          (one_line line (reason_line (bound_text k.0)) behind [] (reason_one bound) (reason_one k.0)
          (ap (λ (v : List ℕ). v ++ behind) (sym (append-nil line)) ∙ k.1 ∙ sym (append-nil (reason_line (bound_text k.0))))).1;
    }

pub stuck_bound : (old : SignatureValue) (name : List ℕ) (a b : Lines) → b ≡ a → ((bound : Bound) (rest : List ℕ) → a.rest.now ≡ reason_line (bound_text bound) ++ rest → ⊥) → AreStuck (IsBody old (codes "GaveUp") name) a b
stuck_bound old name a b same none = record {
  passed = [];
  are = none_passed a b same;
  stuck = record {
    more = reason_line (bound_text Depth);
    begins = (old, Open Depth, record { status = refl; lawful = tt; grown = grown_none old; text = refl });
    ends = λ line rest behind l e h.
        let k = body_as old h.0 name (line ++ behind) h.1 h.2 in
        let one = one_line line (reason_line (bound_text k.0)) behind [] l (reason_one k.0) (k.1 ∙ sym (append-nil (reason_line (bound_text k.0)))) in
        none k.0 rest (sym (ap (λ (v : Lines). v.rest.now) same) ∙ e ∙ ap (λ (v : List ℕ). v ++ rest) one.0);
    short = λ e h. let k = body_as old h.0 name [] h.1 h.2 in some_line (reason_line (bound_text k.0)) [] (reason_one k.0) (append-nil (reason_line (bound_text k.0)) ∙ sym k.1);
  };
}

pub if_no_reason : {X : Type 0} (o : Option X) (a b : Lines) → b ≡ a → ((line rest : List ℕ) → IsLine line → a.rest.now ≡ line ++ rest → ⊥) → IfNone o ((signature : SignatureValue) (name : List ℕ) → AreStuck (IsBody signature (codes "GaveUp") name) a b)
if_no_reason o a b same h = if_none o ((signature : SignatureValue) (name : List ℕ) → AreStuck (IsBody signature (codes "GaveUp") name) a b) (λ signature name. stuck_bound signature name a b same (λ bound rest e. h (reason_line (bound_text bound)) rest (reason_one bound) e))

pub if_other_reason : {X : Type 0} (o : Option X) (a b : Lines) (line : List ℕ) → b ≡ a → IsLine line → take (length line) a.rest.now ≡ line → ((bound : Bound) → line ≡ reason_line (bound_text bound) → ⊥) → IfNone o ((signature : SignatureValue) (name : List ℕ) → AreStuck (IsBody signature (codes "GaveUp") name) a b)
if_other_reason o a b line same l f h = if_none o ((signature : SignatureValue) (name : List ℕ) → AreStuck (IsBody signature (codes "GaveUp") name) a b)
    (λ signature name. stuck_bound signature name a b same (λ bound rest e. h bound (first_is a.rest.now line (reason_line (bound_text bound)) rest l f (reason_one bound) e)))

-- ---- the line of a start

pub if_no_start : {X : Type 0} (o : Option X) (left : List ℕ) → ((line rest : List ℕ) → IsLine line → left ≡ line ++ rest → ⊥) → IfNone o ((start : Start) (rest : List ℕ) → left ≡ start_line start ++ rest → ⊥)
if_no_start o left h = if_none o ((start : Start) (rest : List ℕ) → left ≡ start_line start ++ rest → ⊥) (λ start rest e. h (start_line start) rest (start_one start) e)

pub no_start : (left line : List ℕ) → IsLine line → take (length line) left ≡ line → (line ≡ codes "% default false\n" → ⊥) → (line ≡ codes "% default true\n" → ⊥) → (start : Start) (rest : List ℕ) → left ≡ start_line start ++ rest → ⊥
no_start left line l f a b Negative rest e = a (first_is left line (start_line Negative) rest l f (start_one Negative) e)
no_start left line l f a b Positive rest e = b (first_is left line (start_line Positive) rest l f (start_one Positive) e)
