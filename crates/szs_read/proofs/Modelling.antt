-- Which lines can come in the body of a model.
use Rattle.std.proofs.Common.{◌≡◌, ℕ, List, [], ◌∷◌, ◌++◌, length, get_or, Some, None, refl, sym, ap, subst, ◌∙◌, append_assoc, arith}
use Rattle.std.proofs.lemmas.List.{append-nil}
use Rattle.std.specs.Prelude.{codes}
use Rattle.std.specs.List.{AllByRecursion}
use Rattle.me_terms.specs.Values.{SymbolValue, SignatureValue}
use Rattle.me_terms.specs.Sequences.{SequenceValue}
use Rattle.me_terms.specs.declared.bounds.Start.{Start}
use Rattle.me_terms.specs.declared.bounds.Start.TheVariants.{Negative}
use Rattle.szs_print.specs.Printable.{IsName}
use Rattle.szs_read.specs.Claims.{IsEntryLine, Rises, entry_literals, functions_in, predicates_in, IsGrownBy}
use Rattle.szs_read.specs.ClaimText.{entry_line, entry_lines, start_line}
use Rattle.szs_read.specs.Coming.{AreSymbolsToCome}
use Rattle.szs_read.specs.Finds.{IsEntryToCome, FindsEntry}
use Rattle.szs_read.specs.Passes.{IsLine, joined, ArePassed, AreStuck, AreWhole, IsBody}
use Rattle.szs_read.specs.Reads.{IsReadBody, BeginEntries}
use Rattle.szs_read.specs.declared.claim.EntryLine.{EntryLine}
use Rattle.szs_read.specs.declared.claim.Claim.{Claim}
use Rattle.szs_read.specs.declared.claim.Claim.TheVariants.{Refuted, Model, Open}
use Rattle.szs_read.specs.declared.lines.Lines.{Lines}
use Rattle.szs_read.proofs.Cutting.{one_line, some_line, joined_push, named_line}
use Rattle.szs_read.proofs.Grown.{grown_none}
use Rattle.szs_read.proofs.Grows.{first_grown, others_grown}
use Rattle.szs_read.proofs.Listed.{model_body}
use Rattle.szs_read.proofs.Literals.{all_readable}
use Rattle.szs_read.proofs.OneLines.{coded, entry_one, start_one}
use Rattle.szs_read.proofs.Passing.{same_front, stuck_at, stuck_none, passed_on, none_passed}

abbrev pub word : List ℕ
word = codes "Satisfiable"

abbrev pub first_line : List ℕ → List ℕ
first_line name = codes "% SZS output start Model for " ++ name ++ codes "\n"

abbrev pub last_line : List ℕ → List ℕ
last_line name = codes "% SZS output end Model for " ++ name ++ codes "\n"

pub first_one : (name : List ℕ) → IsName name → IsLine (first_line name)
first_one name h = named_line (codes "% SZS output start Model for ") name (coded (codes "% SZS output start Model for ") refl) h

pub last_one : (name : List ℕ) → IsName name → IsLine (last_line name)
last_one name h = named_line (codes "% SZS output end Model for ") name (coded (codes "% SZS output end Model for ") refl) h

-- the bytes are the lines of a model behind a position
pub record RestOfModel (now : SignatureValue) (name : List ℕ) (last : ℕ) (bytes : List ℕ) : Type 0 where
  pub end : SignatureValue
  pub lines : List EntryLine
  pub lawful : AllByRecursion (IsEntryLine end) lines
  pub rises : Rises last lines
  pub grown : IsGrownBy now (entry_literals lines) end
  pub text : bytes ≡ entry_lines end lines ++ last_line name

-- ---- the first two lines

record BodyParts (old : SignatureValue) (name bytes : List ℕ) : Type 0 where
  start : Start
  rest : List ℕ
  parts : bytes ≡ first_line name ++ (start_line start ++ rest)
  model : RestOfModel old name 0 rest

body_as : (old new : SignatureValue) (name bytes : List ℕ) (claim : Claim) → IsReadBody old new word name bytes claim → BodyParts old name bytes
body_as old new name bytes (Model start lines) h = record {
  start = start;
  rest = entry_lines new lines.items ++ last_line name;
  parts =
      h.text ∙ append_assoc (first_line name ++ start_line start) (entry_lines new lines.items) (last_line name)
      ∙ append_assoc (first_line name) (start_line start) (entry_lines new lines.items ++ last_line name);
  model = record { end = new; lines = lines.items; lawful = h.lawful.0; rises = h.lawful.1; grown = h.grown; text = refl };
}
body_as old new name bytes (Refuted lines) h = let e : ◌≡◌ {A = ℕ} 13 11 = ap length h.status in absurd (omega (arith, e))
body_as old new name bytes (Open bound) h = let e : ◌≡◌ {A = ℕ} 6 11 = ap length h.status in absurd (omega (arith, e))

pub body_first : (old : SignatureValue) (name line behind : List ℕ) → IsName name → IsLine line → IsBody old word name (line ++ behind) → line ≡ first_line name
body_first old name line behind n l h =
    let b = body_as old h.0 name (line ++ behind) h.1 h.2 in
    (one_line line (first_line name) behind (start_line b.start ++ b.rest) l (first_one name n) b.parts).0

first_off : (name X : List ℕ) → joined (first_line name ∷ []) ++ X ≡ first_line name ++ X
first_off name X = ap (λ (v : List ℕ). v ++ X) (append-nil (first_line name))

pub body_second : (old : SignatureValue) (name line behind : List ℕ) → IsName name → IsLine line → IsBody old word name (joined (first_line name ∷ []) ++ (line ++ behind)) → (start : Start) × (line ≡ start_line start)
body_second old name line behind n l h =
    let b = body_as old h.0 name (joined (first_line name ∷ []) ++ (line ++ behind)) h.1 h.2 in
    let one = one_line (first_line name) (first_line name) (line ++ behind) (start_line b.start ++ b.rest) (first_one name n) (first_one name n) (sym (first_off name (line ++ behind)) ∙ b.parts) in
    (b.start, (one_line line (start_line b.start) behind b.rest l (start_one b.start) one.1).0)

pub body_rest : (old : SignatureValue) (name X : List ℕ) (start : Start) → IsName name → IsBody old word name (joined (first_line name ∷ start_line start ∷ []) ++ X) → RestOfModel old name 0 X
body_rest old name X start n h =
    let all : List ℕ = joined (first_line name ∷ start_line start ∷ []) ++ X in
    let b = body_as old h.0 name all h.1 h.2 in
    let e : first_line name ++ (start_line start ++ X) ≡ all =
    sym (append_assoc (first_line name) (start_line start) X) ∙ ap (λ (v : List ℕ). (first_line name ++ v) ++ X) (sym (append-nil (start_line start))) in
    let one = one_line (first_line name) (first_line name) (start_line start ++ X) (start_line b.start ++ b.rest) (first_one name n) (first_one name n) (e ∙ b.parts) in
    let two = one_line (start_line start) (start_line b.start) X b.rest (start_one start) (start_one b.start) one.1 in
    subst (RestOfModel old name 0) (sym two.1) b.model

pub body_some : (old : SignatureValue) (name : List ℕ) → IsName name → IsBody old word name [] → ⊥
body_some old name n h =
    let b = body_as old h.0 name [] h.1 h.2 in
    some_line (first_line name) (start_line b.start ++ b.rest) (first_one name n) (sym b.parts)

pub first_some : (old : SignatureValue) (name : List ℕ) → IsName name → IsBody old word name (joined (first_line name ∷ [])) → ⊥
first_some old name n h =
    let b = body_as old h.0 name (joined (first_line name ∷ [])) h.1 h.2 in
    let one = one_line (first_line name) (first_line name) [] (start_line b.start ++ b.rest) (first_one name n) (first_one name n) b.parts in
    some_line (start_line b.start) b.rest (start_one b.start) (sym one.1)

empty_body : (old : SignatureValue) (name : List ℕ) → IsBody old word name ((first_line name ++ start_line Negative) ++ last_line name)
empty_body old name = (
  old,
  Model Negative (record { items = []; spare = 0 }),
  record { status = refl; lawful = (tt, tt); grown = grown_none old; text = ap (λ (v : List ℕ). v ++ last_line name) (sym (append-nil (first_line name ++ start_line Negative))) },
)

-- ---- one line more

-- the line is the one of a literal that is to come
pub record EntryNext (now : SignatureValue) (name : List ℕ) (last : ℕ) (line behind : List ℕ) : Type 0 where
  pub end : SignatureValue
  pub entry : EntryLine
  pub functions : List SymbolValue
  pub predicates : List SymbolValue
  pub coming : IsEntryToCome now end last line entry functions predicates
  pub after : (new : SignatureValue) → AreSymbolsToCome new end functions predicates → RestOfModel new name entry.at behind

module _ (name : List ℕ) (n : IsName name) where
  one_entry : (now end : SignatureValue) (last : ℕ) (line behind : List ℕ) (l : EntryLine) (ls : List EntryLine) → IsLine line → AllByRecursion (IsEntryLine end) (l ∷ ls) → Rises last (l ∷ ls) → IsGrownBy now (entry_literals (l ∷ ls)) end
      → line ++ behind ≡ entry_lines end (l ∷ ls) ++ last_line name → (line ≡ entry_line end l) × EntryNext now name last line behind
  one_entry now end last line behind l ls h lawful rises grown e =
      let coming = first_grown now end 999 (l.literal ∷ []) (entry_literals ls) (lawful.0.literal, tt) grown in
      let readable = all_readable now end 999 (l.literal ∷ []) (functions_in end (entry_literals ls)) (predicates_in end (entry_literals ls)) coming in
      let is = entry_one end l (omega (arith, lawful.0.at.1)) readable.0 in
      let cut = one_line line (entry_line end l) behind (entry_lines end ls ++ last_line name) h is (e ∙ append_assoc (entry_line end l) (entry_lines end ls) (last_line name)) in (
        cut.0,
        record {
          end = end;
          entry = l;
          functions = functions_in end (entry_literals ls);
          predicates = predicates_in end (entry_literals ls);
          coming = record { lawful = lawful.0; rises = rises.0; coming = coming; text = cut.0 };
          after = λ new s. record { end = end; lines = ls; lawful = lawful.1; rises = rises.1; grown = others_grown now new end (l.literal ∷ []) (entry_literals ls) grown s; text = cut.1 };
        },
      )

  pub rest_next : (now : SignatureValue) (last : ℕ) (line behind : List ℕ) → IsLine line → (line ≡ last_line name → ⊥) → RestOfModel now name last (line ++ behind) → EntryNext now name last line behind
  rest_next now last line behind h other r = by r.lines r.lawful r.rises r.grown r.text
    where
      by : (ls : List EntryLine) → AllByRecursion (IsEntryLine r.end) ls → Rises last ls → IsGrownBy now (entry_literals ls) r.end → line ++ behind ≡ entry_lines r.end ls ++ last_line name → EntryNext now name last line behind
      by [] lawful rises grown e = absurd (other (one_line line (last_line name) behind [] h (last_one name n) (e ∙ sym (append-nil (last_line name)))).0)
      by (l ∷ ls) lawful rises grown e = (one_entry now r.end last line behind l ls h lawful rises grown e).1

  not_last : (s : SignatureValue) (l : EntryLine) → last_line name ≡ entry_line s l → ⊥
  not_last s l e = let x : ◌≡◌ {A = ℕ} 37 99 = ap (λ (v : List ℕ). get_or v 0 0) e in absurd (omega (arith, x))

  pub rest_last : (now : SignatureValue) (last : ℕ) (line behind : List ℕ) → IsLine line → line ≡ last_line name → RestOfModel now name last (line ++ behind) → behind ≡ []
  rest_last now last line behind h is r = by r.lines r.lawful r.rises r.grown r.text
    where
      by : (ls : List EntryLine) → AllByRecursion (IsEntryLine r.end) ls → Rises last ls → IsGrownBy now (entry_literals ls) r.end → line ++ behind ≡ entry_lines r.end ls ++ last_line name → behind ≡ []
      by [] lawful rises grown e = (one_line line (last_line name) behind [] h (last_one name n) (e ∙ sym (append-nil (last_line name)))).1
      by (l ∷ ls) lawful rises grown e = absurd (not_last r.end l (sym is ∙ (one_entry now r.end last line behind l ls h lawful rises grown e).0))

  pub rest_some : (now : SignatureValue) (last : ℕ) → RestOfModel now name last [] → ⊥
  rest_some now last r = some_line (last_line name) [] (last_one name n) (append-nil (last_line name) ∙ last_none (entry_lines r.end r.lines) (last_line name) r.text)
    where
      last_none : (xs ys : List ℕ) → [] ≡ xs ++ ys → ys ≡ []
      last_none [] ys e = sym e
      last_none (x ∷ xs) ys e = absurd cc

-- ---- the lines as far as they are read

-- these lines were passed behind the first two
pub record ModelSoFar (old now : SignatureValue) (name : List ℕ) (start : Start) (last : ℕ) (a b : Lines) : Type 0 where
  pub passed : List (List ℕ)
  pub are : ArePassed a b passed
  pub goes_on : (behind : List ℕ) → IsBody old word name (joined (first_line name ∷ start_line start ∷ passed) ++ behind) → RestOfModel now name last behind

pub none_so_far : (old : SignatureValue) (name : List ℕ) (start : Start) (a b : Lines) → IsName name → b ≡ a → ModelSoFar old old name start 0 a b
none_so_far old name start a b n same = record { passed = []; are = none_passed a b same; goes_on = λ behind p. body_rest old name behind start n p }

pub one_so_far : (old now new : SignatureValue) (name : List ℕ) (start : Start) (last at : ℕ) (a b c : Lines) (line : List ℕ) → IsName name → IsLine line → (line ≡ last_line name → ⊥) → ModelSoFar old now name start last a b → ArePassed b c (line ∷ []) → FindsEntry now new last line (Some at) → ModelSoFar old new name start at a c
one_so_far old now new name start last at a b c line n l other h p f = record {
  passed = h.passed ++ line ∷ [];
  are = passed_on a b c h.passed (line ∷ []) h.are p;
  goes_on = λ behind q.
      let one = rest_next name n now last line behind l other (h.goes_on (line ++ behind) (subst (IsBody old word name) (joined_push (first_line name ∷ start_line start ∷ h.passed) line behind) q)) in
      let found = f one.end one.entry one.functions one.predicates one.coming in
      let same : Some at ≡ Some one.entry.at = found.0 in
      let number : at ≡ one.entry.at = cc in
      subst (λ (k : ℕ). RestOfModel new name k behind) (sym number) (one.after new found.1);
}

-- what was read so far can be the whole
so_far_begins : (old now : SignatureValue) (name : List ℕ) (n : IsName name) (start : Start) (last : ℕ) (a b : Lines) (lines : SequenceValue EntryLine) (h : ModelSoFar old now name start last a b) → BeginEntries old now last a.rest.now b.rest.now lines.items → IsBody old word name (joined (first_line name ∷ start_line start ∷ h.passed) ++ last_line name)
so_far_begins old now name n start last a b lines h r =
    let tail : List ℕ = r.taken ++ (last_line name ++ []) in
    let whole = model_body old now last (first_line name ++ (start_line start ++ tail)) (start_line start ++ tail) tail (last_line name ++ []) (last_line name) [] name start lines refl refl
    (record { taken = r.taken; parts = refl; read = r.read }) (record { named = n; text = refl }) refl in
    let same : joined h.passed ≡ r.taken = same_front (joined h.passed) r.taken b.rest.now (sym h.are.parts ∙ r.parts) in
    let is : whole.taken ≡ first_line name ++ (start_line start ++ (r.taken ++ last_line name)) =
    sym (append-nil whole.taken) ∙ sym whole.parts ∙ ap (λ (v : List ℕ). first_line name ++ (start_line start ++ (r.taken ++ v))) (append-nil (last_line name)) in
    let text : first_line name ++ (start_line start ++ (r.taken ++ last_line name)) ≡ joined (first_line name ∷ start_line start ∷ h.passed) ++ last_line name =
    ap (λ (v : List ℕ). first_line name ++ v) (sym (append_assoc (start_line start) r.taken (last_line name))) ∙ sym (append_assoc (first_line name) (start_line start ++ r.taken) (last_line name))
    ∙ ap (λ (v : List ℕ). (first_line name ++ (start_line start ++ v)) ++ last_line name) (sym same) in
    (now, Model start lines, subst (λ (v : List ℕ). IsReadBody old now word name v (Model start lines)) (is ∙ text) whole.body)

-- the first two lines
pub two_passed : (name : List ℕ) (start : Start) (y z a : Lines) → ArePassed y z (first_line name ∷ []) → ArePassed z a (start_line start ∷ []) → ArePassed y a (first_line name ∷ start_line start ∷ [])
two_passed name start y z a h k = passed_on y z a (first_line name ∷ []) (start_line start ∷ []) h k

pub stuck_no_line : (old now : SignatureValue) (name : List ℕ) (n : IsName name) (start : Start) (last : ℕ) (z a b : Lines) (lines : SequenceValue EntryLine) → ArePassed z a (first_line name ∷ start_line start ∷ []) → ModelSoFar old now name start last a b → BeginEntries old now last a.rest.now b.rest.now lines.items
    → ((line rest : List ℕ) → IsLine line → b.rest.now ≡ line ++ rest → ⊥) → AreStuck (IsBody old word name) z b
stuck_no_line old now name n start last z a b lines p h r none = record {
  passed = first_line name ∷ start_line start ∷ h.passed;
  are = passed_on z a b (first_line name ∷ start_line start ∷ []) h.passed p h.are;
  stuck = stuck_none (IsBody old word name) (first_line name ∷ start_line start ∷ h.passed) b.rest.now (last_line name) (so_far_begins old now name n start last a b lines h r) none
      (λ q. rest_some name n now last (h.goes_on [] (subst (IsBody old word name) (sym (append-nil (joined (first_line name ∷ start_line start ∷ h.passed)))) q)));
}

pub stuck_no_entry : (old now new : SignatureValue) (name : List ℕ) (n : IsName name) (start : Start) (last : ℕ) (z a b : Lines) (line after : List ℕ) (lines : SequenceValue EntryLine) → ArePassed z a (first_line name ∷ start_line start ∷ []) → ModelSoFar old now name start last a b → BeginEntries old now last a.rest.now b.rest.now lines.items
    → IsLine line → (line ≡ last_line name → ⊥) → b.rest.now ≡ line ++ after → FindsEntry now new last line None → AreStuck (IsBody old word name) z b
stuck_no_entry old now new name n start last z a b line after lines p h r l other parts f = record {
  passed = first_line name ∷ start_line start ∷ h.passed;
  are = passed_on z a b (first_line name ∷ start_line start ∷ []) h.passed p h.are;
  stuck = stuck_at (IsBody old word name) (first_line name ∷ start_line start ∷ h.passed) b.rest.now line after (last_line name) (so_far_begins old now name n start last a b lines h r) l parts
      (λ more q.
      let one = rest_next name n now last line more l other (h.goes_on (line ++ more) q) in
      let found : None ≡ Some one.entry.at = (f one.end one.entry one.functions one.predicates one.coming).0 in
      absurd cc);
}

pub whole_model : (old now : SignatureValue) (name : List ℕ) (n : IsName name) (start : Start) (last : ℕ) (z a b c : Lines) (line : List ℕ) → ArePassed z a (first_line name ∷ start_line start ∷ []) → ModelSoFar old now name start last a b → IsLine line → line ≡ last_line name → ArePassed b c (line ∷ []) → AreWhole (IsBody old word name) z c
whole_model old now name n start last z a b c line first h l is p = record {
  passed = (first_line name ∷ start_line start ∷ h.passed) ++ line ∷ [];
  are = passed_on z b c (first_line name ∷ start_line start ∷ h.passed) (line ∷ []) (passed_on z a b (first_line name ∷ start_line start ∷ []) h.passed first h.are) p;
  only = λ behind q. rest_last name n now last line behind l is (h.goes_on (line ++ behind) (subst (IsBody old word name) (joined_push (first_line name ∷ start_line start ∷ h.passed) line behind) q));
}

-- not even the first line is there
pub stuck_first : (old : SignatureValue) (name : List ℕ) (n : IsName name) (a b : Lines) → b ≡ a → ((rest : List ℕ) → a.rest.now ≡ first_line name ++ rest → ⊥) → AreStuck (IsBody old word name) a b
stuck_first old name n a b same none = record {
  passed = [];
  are = none_passed a b same;
  stuck = record {
    more = (first_line name ++ start_line Negative) ++ last_line name;
    begins = empty_body old name;
    ends = λ line rest behind l e p.
        none rest (sym (ap (λ (v : Lines). v.rest.now) same) ∙ e ∙ ap (λ (v : List ℕ). v ++ rest) (body_first old name line behind n l p));
    short = λ e p. body_some old name n p;
  };
}

-- the first line is there, but not the second
pub stuck_second : (old : SignatureValue) (name : List ℕ) (n : IsName name) (a b c : Lines) → ArePassed a b (first_line name ∷ []) → c ≡ b → ((start : Start) (rest : List ℕ) → b.rest.now ≡ start_line start ++ rest → ⊥) → AreStuck (IsBody old word name) a c
stuck_second old name n a b c h same none = record {
  passed = first_line name ∷ [];
  are = passed_on a b c (first_line name ∷ []) [] h (none_passed b c same);
  stuck = record {
    more = start_line Negative ++ last_line name;
    begins = subst (IsBody old word name) (append_assoc (first_line name) (start_line Negative) (last_line name) ∙ sym (first_off name (start_line Negative ++ last_line name))) (empty_body old name);
    ends = λ line rest behind l e p.
        let second = body_second old name line behind n l p in
        none second.0 rest (sym (ap (λ (v : Lines). v.rest.now) same) ∙ e ∙ ap (λ (v : List ℕ). v ++ rest) second.1);
    short = λ e p. first_some old name n p;
  };
}
