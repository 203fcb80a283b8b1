-- What is found in a line where it is one.
use Rattle.std.proofs.Common.{◌≡◌, ◌<◌, ◌≤◌, ◌^◌, ℕ, List, [], ◌∷◌, ◌++◌, length, drop, Option, Some, None, refl, sym, ap, subst, ◌∙◌, arith}
use Rattle.std.specs.Prelude.{codes, decimal}
use Rattle.me_terms.specs.Labels.{IsClauseLabel}
use Rattle.me_terms.specs.Sequences.{SequenceValue}
use Rattle.me_terms.specs.Values.{LabelValue, SymbolValue, SignatureValue}
use Rattle.me_terms.specs.declared.atom.Literal.{Literal}
use Rattle.me_terms.specs.declared.entry.Kind.{Kind}
use Rattle.cnf_text.specs.ClauseText.{literal_text, clause_text}
use Rattle.cnf_text.specs.LabelText.{label_text}
use Rattle.tptp_tokens.specs.Tokens.{TokenValue}
use Rattle.tptp_tokens.specs.declared.token.TokenKind.TheVariants as kinds
use Rattle.szs_print.specs.ModelText.{kind_text}
use Rattle.szs_read.specs.Claims.{IsInstanceLine, IsEntryLine}
use Rattle.szs_read.specs.ClaimText.{instance_line, entry_line}
use Rattle.szs_read.specs.Coming.{IfSomeIs, AreSymbolsToCome}
use Rattle.szs_read.specs.Finds.{FindsLiteral, FindsLiterals, IsInstanceToCome, FindsInstanceText, IsEntryToCome, FindsEntryText, kind_token, position_token}
use Rattle.szs_read.specs.LineTokens.{AreLeft, token, label_token, comma_token, close_token, dot_token}
use Rattle.szs_read.specs.RowItems.{IsRowOf}
use Rattle.szs_read.specs.Values.{InstanceLineValue}
use Rattle.szs_read.specs.declared.claim.EntryLine.{EntryLine}
use Rattle.szs_read.specs.declared.row.Row.{Row}
use Rattle.szs_read.specs.declared.row.Stop.{Stop}
use Rattle.szs_read.specs.declared.row.Stop.TheVariants.{Other}
use Rattle.szs_read.proofs.Clauses.{RowLiteral}
use Rattle.szs_read.proofs.Grown.{Wider}
use Rattle.szs_read.proofs.LineCuts.{instance_left, instance_then, source_then, entry_left, entry_then, kind_then}
use Rattle.szs_read.proofs.Literals.{all_readable, names_fine}
use Rattle.szs_read.proofs.Symbols.{symbols_longer}
use Rattle.szs_read.proofs.Texts.{literal_same, clause_same}
use Rattle.tptp_cnf.proofs.Numbering.{Longer}

abbrev pub Skips : ℕ → List ℕ → List ℕ → Type 0
Skips n before after = (ts : List TokenValue) → AreLeft before ts → AreLeft after (drop n ts)

pub wider_to_come : (now end : SignatureValue) (functions predicates : List SymbolValue) → AreSymbolsToCome now end functions predicates → Wider now end
wider_to_come now end functions predicates h = record {
  functions = subst (λ (v : List SymbolValue). Longer now.functions v) (sym h.functions_are) (symbols_longer now.functions functions);
  predicates = subst (λ (v : List SymbolValue). Longer now.predicates v) (sym h.predicates_are) (symbols_longer now.predicates predicates);
}

-- ---- instances

line_left : (now end : SignatureValue) (k : ℕ) (bytes : List ℕ) (line : InstanceLineValue) (functions predicates : List SymbolValue) → k < 2 ^ 64 → IsInstanceToCome now end k bytes line functions predicates → AreLeft bytes (instance_then end k line)
line_left now end k bytes line functions predicates small h =
    subst (λ (v : List ℕ). AreLeft v (instance_then end k line)) (sym h.text)
    (instance_left end k line small (omega (arith, h.lawful.number.1)) h.lawful.label.0 (all_readable now end 999 line.literals functions predicates h.coming))

literals_of : (old new end : SignatureValue) (k : ℕ) (bytes first after : List ℕ) (line : InstanceLineValue) (functions predicates : List SymbolValue) (found : Option (SequenceValue Literal)) → k < 2 ^ 64 → IsInstanceToCome old end k bytes line functions predicates → Skips 6 bytes first → FindsLiterals old new 999 first after found
    → IfSomeIs found (λ ms. clause_text end ms.items ≡ clause_text end line.literals) × AreSymbolsToCome new end functions predicates × AreLeft after (source_then line)
literals_of old new end k bytes first after line functions predicates found small h s f =
    f end line.literals functions predicates (source_then line) h.coming (s (instance_then end k line) (line_left old end k bytes line functions predicates small h))

pub no_literals : (old new : SignatureValue) (bytes first after : List ℕ) → Skips 6 bytes first → FindsLiterals old new 999 first after None → FindsInstanceText old new bytes None
no_literals old new bytes first after s f end k line functions predicates small h = absurd (literals_of old new end k bytes first after line functions predicates None small h s f).0

-- what a number is found as
abbrev pub FindsNumber : List ℕ → List ℕ → Option ℕ → Type 0
FindsNumber before after found = (n : ℕ) (ts : List TokenValue) → 1 ≤ n → n ≤ 1048576 → AreLeft before (token kinds.Digits (decimal n) ∷ ts) → (found ≡ Some n) × AreLeft after ts

number_of : (old new end : SignatureValue) (k : ℕ) (bytes first after second third : List ℕ) (line : InstanceLineValue) (functions predicates : List SymbolValue) (found : Option (SequenceValue Literal)) (number : Option ℕ) → k < 2 ^ 64 → IsInstanceToCome old end k bytes line functions predicates → Skips 6 bytes first → FindsLiterals old new 999 first after found → Skips 2 after second → FindsNumber second third number
    → (number ≡ Some line.number) × AreLeft third (comma_token ∷ label_token line.label ∷ close_token ∷ close_token ∷ dot_token ∷ [])
number_of old new end k bytes first after second third line functions predicates found number small h s f s2 g =
    let k1 = literals_of old new end k bytes first after line functions predicates found small h s f in
    g line.number (comma_token ∷ label_token line.label ∷ close_token ∷ close_token ∷ dot_token ∷ []) h.lawful.number.0 h.lawful.number.1 (s2 (source_then line) k1.2)

pub no_number : (old new : SignatureValue) (bytes first after second third : List ℕ) (found : Option (SequenceValue Literal)) → Skips 6 bytes first → FindsLiterals old new 999 first after found → Skips 2 after second → FindsNumber second third None → FindsInstanceText old new bytes None
no_number old new bytes first after second third found s f s2 g end k line functions predicates small h =
    let n = (number_of old new end k bytes first after second third line functions predicates found None small h s f s2 g).0 in
    absurd cc

abbrev pub FindsLabel : List ℕ → Option LabelValue → Type 0
FindsLabel before found = (label : LabelValue) (ts : List TokenValue) → IsClauseLabel label → AreLeft before (label_token label ∷ ts) → found ≡ Some label

label_of : (old new end : SignatureValue) (k : ℕ) (bytes first after second third fourth : List ℕ) (line : InstanceLineValue) (functions predicates : List SymbolValue) (found : Option (SequenceValue Literal)) (number : Option ℕ) (label : Option LabelValue) → k < 2 ^ 64 → IsInstanceToCome old end k bytes line functions predicates → Skips 6 bytes first → FindsLiterals old new 999 first after found → Skips 2 after second → FindsNumber second third number → Skips 1 third fourth → FindsLabel fourth label → label ≡ Some line.label
label_of old new end k bytes first after second third fourth line functions predicates found number label small h s f s2 g s3 l =
    let n = number_of old new end k bytes first after second third line functions predicates found number small h s f s2 g in
    l line.label (close_token ∷ close_token ∷ dot_token ∷ []) h.lawful.label (s3 (comma_token ∷ label_token line.label ∷ close_token ∷ close_token ∷ dot_token ∷ []) n.1)

pub no_label : (old new : SignatureValue) (bytes first after second third fourth : List ℕ) (found : Option (SequenceValue Literal)) (number : Option ℕ) → Skips 6 bytes first → FindsLiterals old new 999 first after found → Skips 2 after second → FindsNumber second third number → Skips 1 third fourth → FindsLabel fourth None → FindsInstanceText old new bytes None
no_label old new bytes first after second third fourth found number s f s2 g s3 l end k line functions predicates small h =
    let e = label_of old new end k bytes first after second third fourth line functions predicates found number None small h s f s2 g s3 l in
    absurd cc

pub instance_is : (old new : SignatureValue) (bytes first after second third fourth : List ℕ) (found : SequenceValue Literal) (number : ℕ) (label : LabelValue) → Skips 6 bytes first → FindsLiterals old new 999 first after (Some found) → Skips 2 after second → FindsNumber second third (Some number) → Skips 1 third fourth → FindsLabel fourth (Some label)
    → FindsInstanceText old new bytes (Some (record { number = number; label = label; literals = found.items }))
instance_is old new bytes first after second third fourth found number label s f s2 g s3 l end k line functions predicates small h =
    let a = literals_of old new end k bytes first after line functions predicates (Some found) small h s f in
    let b = (number_of old new end k bytes first after second third line functions predicates (Some found) (Some number) small h s f s2 g).0 in
    let c = label_of old new end k bytes first after second third fourth line functions predicates (Some found) (Some number) (Some label) small h s f s2 g s3 l in
    let n : number ≡ line.number = cc in
    let m : label ≡ line.label = cc in (
      ap (λ (v : List ℕ). codes "cnf(i" ++ decimal k ++ codes ",plain," ++ v ++ codes ",instance(" ++ (decimal number ++ codes "," ++ label_text label) ++ codes ")).\n") a.0
          ∙ ap (λ (v : ℕ). codes "cnf(i" ++ decimal k ++ codes ",plain," ++ clause_text end line.literals ++ codes ",instance(" ++ (decimal v ++ codes "," ++ label_text label) ++ codes ")).\n") n
          ∙ ap (λ (v : LabelValue). codes "cnf(i" ++ decimal k ++ codes ",plain," ++ clause_text end line.literals ++ codes ",instance(" ++ (decimal line.number ++ codes "," ++ label_text v) ++ codes ")).\n") m
          ∙ sym h.text,
      a.1,
    )

-- the text of what was found, over the signature that there is now, is the line
pub same_instance : (old new end : SignatureValue) (k : ℕ) (bytes : List ℕ) (line found : InstanceLineValue) (functions predicates : List SymbolValue) → k < 2 ^ 64 → FindsInstanceText old new bytes (Some found) → IsInstanceLine new found → IsInstanceToCome old end k bytes line functions predicates → (instance_line new k found ≡ bytes) × AreSymbolsToCome new end functions predicates
same_instance old new end k bytes line found functions predicates small f lawful h =
    let a = f end k line functions predicates small h in (
      ap (λ (v : List ℕ). codes "cnf(i" ++ decimal k ++ codes ",plain," ++ v ++ codes ",instance(" ++ (decimal found.number ++ codes "," ++ label_text found.label) ++ codes ")).\n")
          (sym (clause_same new end (wider_to_come new end functions predicates a.1) 999 found.literals lawful.literals)) ∙ a.0,
      a.1,
    )

-- ---- entries

entry_is_left : (now end : SignatureValue) (last : ℕ) (bytes : List ℕ) (line : EntryLine) (functions predicates : List SymbolValue) → IsEntryToCome now end last bytes line functions predicates → AreLeft bytes (entry_then end line)
entry_is_left now end last bytes line functions predicates h =
    subst (λ (v : List ℕ). AreLeft v (entry_then end line)) (sym h.text)
    (entry_left end line (omega (arith, h.lawful.at.1)) (all_readable now end 999 (line.literal ∷ []) functions predicates h.coming).0)

-- what a position is found as
abbrev pub FindsPosition : ℕ → List ℕ → List ℕ → Option ℕ → Type 0
FindsPosition last before after found = (at : ℕ) (ts : List TokenValue) → last < at → at < 65535 → AreLeft before (position_token at ∷ ts) → (found ≡ Some at) × AreLeft after ts

position_of : (old end : SignatureValue) (last : ℕ) (bytes first after : List ℕ) (line : EntryLine) (functions predicates : List SymbolValue) (found : Option ℕ) → IsEntryToCome old end last bytes line functions predicates → Skips 2 bytes first → FindsPosition last first after found
    → (found ≡ Some line.at) × AreLeft after (drop 3 (entry_then end line))
position_of old end last bytes first after line functions predicates found h s f =
    f line.at (drop 3 (entry_then end line)) h.rises h.lawful.at.1 (s (entry_then end line) (entry_is_left old end last bytes line functions predicates h))

pub no_position : (old new : SignatureValue) (last : ℕ) (bytes first after : List ℕ) → Skips 2 bytes first → FindsPosition last first after None → FindsEntryText old new last bytes None
no_position old new last bytes first after s f end line functions predicates h =
    let e = (position_of old end last bytes first after line functions predicates None h s f).0 in
    absurd cc

row_of : (old new end : SignatureValue) (last : ℕ) (bytes first after second third : List ℕ) (line : EntryLine) (functions predicates : List SymbolValue) (at : Option ℕ) (row : Row) (stop : Stop) → IsEntryToCome old end last bytes line functions predicates → Skips 2 bytes first → FindsPosition last first after at → Skips 3 after second → length second < 2 ^ 32 → RowLiteral second third row stop
    → IsRowOf end line.literal row × AreLeft third (kind_then line.kind)
row_of old new end last bytes first after second third line functions predicates at row stop h s f s2 small r =
    let p = position_of old end last bytes first after line functions predicates at h s f in
    let k = r end line.literal (comma_token ∷ kind_then line.kind) Other small (names_fine end line.literal (all_readable old end 999 (line.literal ∷ []) functions predicates h.coming).0) refl (s2 (drop 3 (entry_then end line)) p.1) in
    (k.0, k.2)

pub no_literal : (old new : SignatureValue) (last : ℕ) (bytes first after second third : List ℕ) (at : Option ℕ) (row : Row) (stop : Stop) → Skips 2 bytes first → FindsPosition last first after at → Skips 3 after second → length second < 2 ^ 32 → RowLiteral second third row stop → FindsLiteral old new 999 row None → FindsEntryText old new last bytes None
no_literal old new last bytes first after second third at row stop s f s2 small r l end line functions predicates h =
    let k = row_of old new end last bytes first after second third line functions predicates at row stop h s f s2 small r in
    absurd (l end line.literal functions predicates h.coming k.0).0

abbrev pub FindsKind : List ℕ → Option Kind → Type 0
FindsKind before found = (kind : Kind) (ts : List TokenValue) → AreLeft before (kind_token kind ∷ ts) → found ≡ Some kind

pub no_kind : (old new : SignatureValue) (last : ℕ) (bytes first after second third : List ℕ) (at : Option ℕ) (row : Row) (stop : Stop) → Skips 2 bytes first → FindsPosition last first after at → Skips 3 after second → length second < 2 ^ 32 → RowLiteral second third row stop → FindsKind third None → FindsEntryText old new last bytes None
no_kind old new last bytes first after second third at row stop s f s2 small r g end line functions predicates h =
    let k = row_of old new end last bytes first after second third line functions predicates at row stop h s f s2 small r in
    let e = g line.kind (close_token ∷ dot_token ∷ []) k.1 in
    absurd cc

pub entry_is : (old new : SignatureValue) (last : ℕ) (bytes first after second third : List ℕ) (at : ℕ) (row : Row) (stop : Stop) (found : Literal) (kind : Kind) → Skips 2 bytes first → FindsPosition last first after (Some at) → Skips 3 after second → length second < 2 ^ 32 → RowLiteral second third row stop → FindsLiteral old new 999 row (Some found) → FindsKind third (Some kind)
    → FindsEntryText old new last bytes (Some (record { at = at; literal = found; kind = kind }))
entry_is old new last bytes first after second third at row stop found kind s f s2 small r l g end line functions predicates h =
    let p = (position_of old end last bytes first after line functions predicates (Some at) h s f).0 in
    let k = row_of old new end last bytes first after second third line functions predicates (Some at) row stop h s f s2 small r in
    let a = l end line.literal functions predicates h.coming k.0 in
    let e = g line.kind (close_token ∷ dot_token ∷ []) k.1 in
    let n : at ≡ line.at = cc in
    let m : kind ≡ line.kind = cc in (
      (
        n,
        ap (λ (v : ℕ). codes "cnf(e" ++ decimal v ++ codes ",plain," ++ literal_text end found ++ codes "," ++ kind_text kind ++ codes ").\n") n
            ∙ ap (λ (v : List ℕ). codes "cnf(e" ++ decimal line.at ++ codes ",plain," ++ v ++ codes "," ++ kind_text kind ++ codes ").\n") a.0
            ∙ ap (λ (v : Kind). codes "cnf(e" ++ decimal line.at ++ codes ",plain," ++ literal_text end line.literal ++ codes "," ++ kind_text v ++ codes ").\n") m
            ∙ sym h.text,
      ),
      a.1,
    )

pub same_entry : (old new end : SignatureValue) (last : ℕ) (bytes : List ℕ) (line found : EntryLine) (functions predicates : List SymbolValue) → FindsEntryText old new last bytes (Some found) → IsEntryLine new found → IsEntryToCome old end last bytes line functions predicates
    → (found.at ≡ line.at) × (entry_line new found ≡ bytes) × AreSymbolsToCome new end functions predicates
same_entry old new end last bytes line found functions predicates f lawful h =
    let a = f end line functions predicates h in (
      a.0.0,
      ap (λ (v : List ℕ). codes "cnf(e" ++ decimal found.at ++ codes ",plain," ++ v ++ codes "," ++ kind_text found.kind ++ codes ").\n")
          (sym (literal_same new end (wider_to_come new end functions predicates a.1) 999 found.literal lawful.literal)) ∙ a.0.1,
      a.1,
    )
