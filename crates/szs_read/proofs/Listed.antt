-- One line more of a refutation or of a model, and the whole.
use Rattle.std.proofs.Common.{◌≡◌, ◌<◌, ◌+◌, ℕ, List, [], ◌∷◌, ◌++◌, length, refl, sym, ap, subst, ◌∙◌, append_assoc, arith}
use Rattle.std.proofs.lemmas.Grind.{flat_map-append}
use Rattle.std.proofs.lemmas.List.{append-nil, map-append}
use Rattle.std.specs.Prelude.{codes, decimal}
use Rattle.std.specs.List.{AllByRecursion}
use Rattle.me_terms.specs.Sequences.{SequenceValue}
use Rattle.me_terms.specs.Values.{SignatureValue}
use Rattle.me_terms.specs.declared.atom.Literal.{Literal}
use Rattle.me_terms.specs.declared.bounds.Start.{Start}
use Rattle.cnf_text.specs.LabelText.{label_text}
use Rattle.szs_print.specs.ModelText.{kind_text}
use Rattle.szs_read.specs.Claims.{IsLineLiteral, IsInstanceLine, IsEntryLine, Rises, instance_literals, entry_literals, IsGrownBy}
use Rattle.szs_read.specs.ClaimText.{instance_line, instance_lines, entry_line, entry_lines, start_line, claim_body}
use Rattle.szs_print.specs.Printable.{IsName}
use Rattle.szs_print.specs.StatusText.{status_line}
use Rattle.szs_read.specs.Reads.{BeginsAnswer, IsNamed, IsReadInstance, AreInstances, BeginInstances, IsReadEntry, last_at, AreEntries, BeginEntries, BeginsBody}
use Rattle.szs_read.specs.Values.{InstanceLineValue}
use Rattle.szs_read.specs.declared.claim.EntryLine.{EntryLine}
use Rattle.szs_read.specs.declared.claim.Claim.{Claim}
use Rattle.szs_read.specs.declared.claim.Claim.TheVariants.{Refuted, Model}
use Rattle.szs_read.proofs.Symbols.{all_both, all_so}
use Rattle.szs_read.proofs.Grown.{Wider, wider_by, literal_stays, grown_both, grown_none}
use Rattle.szs_read.proofs.Texts.{literal_same, clause_same}

-- ---- instances

line_stays : (old new : SignatureValue) → Wider old new → (line : InstanceLineValue) → IsInstanceLine old line → IsInstanceLine new line
line_stays old new w line h = record { number = h.number; label = h.label; literals = all_so (IsLineLiteral old) (IsLineLiteral new) line.literals (literal_stays old new w 999) h.literals }

lines_same : (old new : SignatureValue) → Wider old new → (k : ℕ) (lines : List InstanceLineValue) → AllByRecursion (IsInstanceLine old) lines → instance_lines new k lines ≡ instance_lines old k lines
lines_same old new w k [] h = refl
lines_same old new w k (line ∷ lines) h =
    ap (λ (v : List ℕ). (codes "cnf(i" ++ decimal k ++ codes ",plain," ++ v ++ codes ",instance(" ++ (decimal line.number ++ codes "," ++ label_text line.label) ++ codes ")).\n") ++ instance_lines new (k + 1) lines) (clause_same old new w 999 line.literals h.0.literals)
    ∙ ap (λ (v : List ℕ). instance_line old k line ++ v) (lines_same old new w (k + 1) lines h.1)

lines_push : (s : SignatureValue) (k : ℕ) (lines : List InstanceLineValue) (line : InstanceLineValue) → instance_lines s k (lines ++ line ∷ []) ≡ instance_lines s k lines ++ instance_line s (k + length lines) line
lines_push s k [] line = append-nil (instance_line s k line) ∙ ap (λ (n : ℕ). instance_line s n line) (omega arith)
lines_push s k (x ∷ lines) line =
    ap (λ (v : List ℕ). instance_line s k x ++ v) (lines_push s (k + 1) lines line)
    ∙ sym (append_assoc (instance_line s k x) (instance_lines s (k + 1) lines) (instance_line s (k + 1 + length lines) line))
    ∙ ap (λ (n : ℕ). (instance_line s k x ++ instance_lines s (k + 1) lines) ++ instance_line s n line) (omega arith)

pub literals_of : (s : SignatureValue) (lines : List InstanceLineValue) → AllByRecursion (IsInstanceLine s) lines → AllByRecursion (IsLineLiteral s) (instance_literals lines)
literals_of s [] h = tt
literals_of s (line ∷ lines) h = all_both (IsLineLiteral s) line.literals (instance_literals lines) h.0.literals (literals_of s lines h.1)

literals_push : (lines : List InstanceLineValue) (line : InstanceLineValue) → instance_literals (lines ++ line ∷ []) ≡ instance_literals lines ++ line.literals
literals_push lines line = flat_map-append (λ l. l.literals) lines (line ∷ []) ∙ ap (λ (v : List Literal). instance_literals lines ++ v) (append-nil line.literals)

pub one_instance : (old mid new : SignatureValue) (bytes more : List ℕ) (lines next : List InstanceLineValue) (line : InstanceLineValue) → IsReadInstance mid new (length lines + 1) more line → next ≡ lines ++ line ∷ [] → AreInstances old mid bytes lines → AreInstances old new (bytes ++ more) next
one_instance old mid new bytes more lines next line r e h =
    let w : Wider mid new = wider_by mid new line.literals r.grown in
    subst (λ (v : List InstanceLineValue). AreInstances old new (bytes ++ more) v) (sym e) (record {
      lawful = all_both (IsInstanceLine new) lines (line ∷ []) (all_so (IsInstanceLine mid) (IsInstanceLine new) lines (line_stays mid new w) h.lawful) (r.lawful, tt);
      grown = subst (λ (v : List Literal). IsGrownBy old v new) (sym (literals_push lines line)) (grown_both old mid new 999 (instance_literals lines) line.literals (literals_of mid lines h.lawful) h.grown r.grown);
      text =
          ap (λ (v : List ℕ). v ++ more) (h.text ∙ sym (lines_same mid new w 1 lines h.lawful))
          ∙ ap (λ (v : List ℕ). instance_lines new 1 lines ++ v) (r.text ∙ ap (λ (n : ℕ). instance_line new n line) (omega arith))
          ∙ sym (lines_push new 1 lines line);
    })

pub no_instances : (s : SignatureValue) (bytes : List ℕ) → BeginInstances s s bytes bytes []
no_instances s bytes = record { taken = []; parts = refl; read = record { lawful = tt; grown = grown_none s; text = refl } }

pub instances_on : (old mid new : SignatureValue) (bytes rest line left : List ℕ) (lines next : List InstanceLineValue) → BeginInstances old mid bytes rest lines → rest ≡ line ++ left → ((start : SignatureValue) (before : List ℕ) → AreInstances start mid before lines → AreInstances start new (before ++ line) next) → BeginInstances old new bytes left next
instances_on old mid new bytes rest line left lines next b e f = record {
  taken = b.taken ++ line;
  parts = b.parts ∙ ap (λ (v : List ℕ). b.taken ++ v) e ∙ sym (append_assoc b.taken line left);
  read = f old b.taken b.read;
}

three_parts : (first middle last rest all behind left : List ℕ) → all ≡ first ++ behind → behind ≡ middle ++ left → left ≡ last ++ rest → all ≡ (first ++ (middle ++ last)) ++ rest
three_parts first middle last rest all behind left e f g =
    e ∙ ap (λ (v : List ℕ). first ++ v) (f ∙ ap (λ (v : List ℕ). middle ++ v) g ∙ sym (append_assoc middle last rest)) ∙ sym (append_assoc first (middle ++ last) rest)

pub refuted_body : (old new : SignatureValue) (all behind left line rest name : List ℕ) (lines : SequenceValue InstanceLineValue) → all ≡ (codes "% SZS output start Refutation for " ++ name ++ codes "\n") ++ behind → BeginInstances old new behind left lines.items → IsNamed line (codes "% SZS output end Refutation for ") name → left ≡ line ++ rest → BeginsBody old new (codes "Unsatisfiable") name all rest (Refuted lines)
refuted_body old new all behind left line rest name lines e b n f = record {
  taken = (codes "% SZS output start Refutation for " ++ name ++ codes "\n") ++ (b.taken ++ line);
  parts = three_parts (codes "% SZS output start Refutation for " ++ name ++ codes "\n") b.taken line rest all behind left e b.parts f;
  body = record {
    status = refl;
    lawful = b.read.lawful;
    grown = b.read.grown;
    text =
        ap (λ (v : List ℕ). (codes "% SZS output start Refutation for " ++ name ++ codes "\n") ++ (v ++ line)) b.read.text
        ∙ ap (λ (v : List ℕ). (codes "% SZS output start Refutation for " ++ name ++ codes "\n") ++ (instance_lines new 1 lines.items ++ v)) n.text
        ∙ sym (append_assoc (codes "% SZS output start Refutation for " ++ name ++ codes "\n") (instance_lines new 1 lines.items) (codes "% SZS output end Refutation for " ++ name ++ codes "\n"));
  };
}

-- ---- entries

entry_stays : (old new : SignatureValue) → Wider old new → (line : EntryLine) → IsEntryLine old line → IsEntryLine new line
entry_stays old new w line h = record { at = h.at; literal = literal_stays old new w 999 line.literal h.literal }

entries_same : (old new : SignatureValue) → Wider old new → (lines : List EntryLine) → AllByRecursion (IsEntryLine old) lines → entry_lines new lines ≡ entry_lines old lines
entries_same old new w [] h = refl
entries_same old new w (line ∷ lines) h =
    ap (λ (v : List ℕ). (codes "cnf(e" ++ decimal line.at ++ codes ",plain," ++ v ++ codes "," ++ kind_text line.kind ++ codes ").\n") ++ entry_lines new lines) (literal_same old new w 999 line.literal h.0.literal)
    ∙ ap (λ (v : List ℕ). entry_line old line ++ v) (entries_same old new w lines h.1)

pub entries_push : (s : SignatureValue) (lines : List EntryLine) (line : EntryLine) → entry_lines s (lines ++ line ∷ []) ≡ entry_lines s lines ++ entry_line s line
entries_push s lines line = flat_map-append (λ l. entry_line s l) lines (line ∷ []) ∙ ap (λ (v : List ℕ). entry_lines s lines ++ v) (append-nil (entry_line s line))

pub entry_literals_of : (s : SignatureValue) (lines : List EntryLine) → AllByRecursion (IsEntryLine s) lines → AllByRecursion (IsLineLiteral s) (entry_literals lines)
entry_literals_of s [] h = tt
entry_literals_of s (line ∷ lines) h = (h.0.literal, entry_literals_of s lines h.1)

pub rises_push : (k : ℕ) (lines : List EntryLine) (line : EntryLine) → Rises k lines → last_at k lines < line.at → Rises k (lines ++ line ∷ [])
rises_push k [] line h e = (e, tt)
rises_push k (x ∷ lines) line h e = (h.0, rises_push x.at lines line h.1 e)

pub last_push : (k : ℕ) (lines : List EntryLine) (line : EntryLine) → last_at k (lines ++ line ∷ []) ≡ line.at
last_push k [] line = refl
last_push k (x ∷ lines) line = last_push x.at lines line

pub one_entry : (old mid new : SignatureValue) (last at : ℕ) (bytes more : List ℕ) (lines next : List EntryLine) (line : EntryLine) → IsReadEntry mid new last more line → at ≡ line.at → next ≡ lines ++ line ∷ [] → AreEntries old mid last bytes lines → AreEntries old new at (bytes ++ more) next
one_entry old mid new last at bytes more lines next line r a e h =
    let w : Wider mid new = wider_by mid new (line.literal ∷ []) r.grown in
    subst (λ (v : List EntryLine). AreEntries old new at (bytes ++ more) v) (sym e) (record {
      lawful = all_both (IsEntryLine new) lines (line ∷ []) (all_so (IsEntryLine mid) (IsEntryLine new) lines (entry_stays mid new w) h.lawful) (r.lawful, tt);
      rises = rises_push 0 lines line h.rises (subst (λ (n : ℕ). n < line.at) (sym h.last_is) r.rises);
      last_is = last_push 0 lines line ∙ sym a;
      grown = subst (λ (v : List Literal). IsGrownBy old v new) (sym (map-append (λ l. l.literal) lines (line ∷ []))) (grown_both old mid new 999 (entry_literals lines) (line.literal ∷ []) (entry_literals_of mid lines h.lawful) h.grown r.grown);
      text =
          ap (λ (v : List ℕ). v ++ more) (h.text ∙ sym (entries_same mid new w lines h.lawful))
          ∙ ap (λ (v : List ℕ). entry_lines new lines ++ v) r.text
          ∙ sym (entries_push new lines line);
    })

pub no_entries : (s : SignatureValue) (bytes : List ℕ) → BeginEntries s s 0 bytes bytes []
no_entries s bytes = record { taken = []; parts = refl; read = record { lawful = tt; rises = tt; last_is = refl; grown = grown_none s; text = refl } }

pub entries_on : (old mid new : SignatureValue) (last at : ℕ) (bytes rest line left : List ℕ) (lines next : List EntryLine) → BeginEntries old mid last bytes rest lines → rest ≡ line ++ left → ((start : SignatureValue) (before : List ℕ) → AreEntries start mid last before lines → AreEntries start new at (before ++ line) next) → BeginEntries old new at bytes left next
entries_on old mid new last at bytes rest line left lines next b e f = record {
  taken = b.taken ++ line;
  parts = b.parts ∙ ap (λ (v : List ℕ). b.taken ++ v) e ∙ sym (append_assoc b.taken line left);
  read = f old b.taken b.read;
}

pub model_body : (old new : SignatureValue) (last : ℕ) (all first behind left line rest name : List ℕ) (start : Start) (lines : SequenceValue EntryLine) → all ≡ (codes "% SZS output start Model for " ++ name ++ codes "\n") ++ first → first ≡ start_line start ++ behind → BeginEntries old new last behind left lines.items → IsNamed line (codes "% SZS output end Model for ") name → left ≡ line ++ rest → BeginsBody old new (codes "Satisfiable") name all rest (Model start lines)
model_body old new last all first behind left line rest name start lines e s b n f =
    let head : List ℕ = codes "% SZS output start Model for " ++ name ++ codes "\n" in record {
      taken = head ++ (start_line start ++ (b.taken ++ line));
      parts =
          e ∙ ap (λ (v : List ℕ). head ++ v) (three_parts (start_line start) b.taken line rest first behind left s b.parts f)
          ∙ sym (append_assoc head (start_line start ++ (b.taken ++ line)) rest);
      body = record {
        status = refl;
        lawful = (b.read.lawful, b.read.rises);
        grown = b.read.grown;
        text =
            ap (λ (v : List ℕ). head ++ (start_line start ++ (v ++ line))) b.read.text
            ∙ ap (λ (v : List ℕ). head ++ (start_line start ++ (entry_lines new lines.items ++ v))) n.text
            ∙ sym (append_assoc head (start_line start) (entry_lines new lines.items ++ (codes "% SZS output end Model for " ++ name ++ codes "\n")))
            ∙ sym (append_assoc (head ++ start_line start) (entry_lines new lines.items) (codes "% SZS output end Model for " ++ name ++ codes "\n"));
      };
    }

-- ---- answers

pub answer_of : (old new : SignatureValue) (word name bytes rest left : List ℕ) (claim : Claim) → IsName name → bytes ≡ status_line word name ++ rest → BeginsBody old new word name rest left claim → BeginsAnswer old new bytes left claim
answer_of old new word name bytes rest left claim n e b = record {
  taken = status_line word name ++ b.taken;
  parts = e ∙ ap (λ (v : List ℕ). status_line word name ++ v) b.parts ∙ sym (append_assoc (status_line word name) b.taken left);
  answer = record {
    name = name;
    named = n;
    text =
        ap (λ (v : List ℕ). status_line word name ++ v) b.body.text
        ∙ ap (λ (v : List ℕ). status_line v name ++ claim_body new name claim) (sym b.body.status);
    lawful = b.body.lawful;
    grown = b.body.grown;
  };
}
