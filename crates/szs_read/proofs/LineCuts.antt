-- The tokens of the lines of answers.
use Rattle.std.proofs.Common.{◌≡◌, ◌<◌, ◌≤◌, ◌^◌, ℕ, true, List, [], ◌∷◌, ◌++◌, length, Some, refl, sym, ap, subst, ◌∙◌, append_assoc, arith}
use Rattle.std.proofs.lemmas.Fmt.{decimal_is_IsNumeral}
use Rattle.std.proofs.lemmas.List.{append-nil}
use Rattle.me_terms.specs.Terms.{AtomValue}
use Rattle.std.proofs.lemmas.Str.Parse.{digit_from_value}
use Rattle.std.specs.Str.Parse.{AllDigits}
use Rattle.std.proofs.lemmas.Bool.Decides.{nat_tests}
use Rattle.std.specs.Prelude.{codes, decimal}
use Rattle.std.specs.List.{AllByRecursion, list_all}
use Rattle.me_terms.specs.Labels.{IsReadableAs, is_digit}
use Rattle.me_terms.specs.Values.{SignatureValue}
use Rattle.me_terms.specs.declared.entry.Kind.{Kind}
use Rattle.me_terms.specs.declared.entry.Kind.TheVariants as entry_kinds
use Rattle.me_terms.specs.declared.symbol.Form.TheVariants as form
use Rattle.cnf_text.specs.ClauseText.{atom_text, literal_text, clause_text}
use Rattle.cnf_text.specs.LabelText.{label_text}
use Rattle.tptp_tokens.specs.Tokens.{TokenValue}
use Rattle.tptp_tokens.specs.declared.token.TokenKind.TheVariants as kinds
use Rattle.tptp_tokens.proofs.Runs.{all_more}
use Rattle.cnf_writer.proofs.Reading.{decimal_word}
use Rattle.szs_print.specs.ModelText.{kind_text}
use Rattle.szs_read.specs.ClaimText.{instance_line, entry_line}
use Rattle.szs_read.specs.Finds.{kind_token}
use Rattle.szs_read.specs.LineTokens.{AreLeft, token, label_token, open_token, close_token, comma_token, dot_token, literal_then, clause_then}
use Rattle.szs_read.specs.Values.{InstanceLineValue}
use Rattle.szs_read.specs.declared.claim.EntryLine.{EntryLine}
use Rattle.szs_read.proofs.Cuts.{IsReadableLiteral, left_nothing, left_blank, left_apart, open_left, close_left, comma_left, dot_left, lower_left, digits_left, label_left, literal_left, clause_left}

apart : (d p c i e z : List ℕ) → ((((d ++ p) ++ c) ++ i) ++ e) ++ z ≡ d ++ (p ++ (c ++ (i ++ (e ++ z))))
apart d p c i e z =
    append_assoc (((d ++ p) ++ c) ++ i) e z ∙ append_assoc ((d ++ p) ++ c) i (e ++ z) ∙ append_assoc (d ++ p) c (i ++ (e ++ z)) ∙ append_assoc d p (c ++ (i ++ (e ++ z)))

is_some : (n : ℕ) → n < 2 ^ 64 → IsReadableAs form.Number (decimal n)
is_some n h = ((λ e. let k = (decimal_is_IsNumeral n h).0.0 in absurd (omega (arith, k, ap length e))), by (decimal n) (decimal_is_IsNumeral n h).0.1)
  where
    digit : (c : ℕ) → 48 ≤ c → c ≤ 57 → is_digit c ≡ true
    digit c h k = grind (arith, nat_tests)

    by : (ds : List ℕ) → AllDigits 10 ds → list_all is_digit ds ≡ true
    by [] h = refl
    by (c ∷ ds) h = let r = digit_from_value c h.0 in all_more is_digit c ds (digit c r.0 r.1) (by ds h.1)

-- the tokens of `cnf(`, a letter with a number, and `,plain,`
abbrev pub head_then : ℕ → ℕ → List TokenValue → List TokenValue
head_then letter n rest = token kinds.LowerWord (codes "cnf") ∷ open_token ∷ token kinds.LowerWord (letter ∷ decimal n) ∷ comma_token ∷ token kinds.LowerWord (codes "plain") ∷ comma_token ∷ rest

plain_left : (rest : List ℕ) (ts : List TokenValue) → AreLeft rest ts → AreLeft (codes ",plain," ++ rest) (comma_token ∷ token kinds.LowerWord (codes "plain") ∷ comma_token ∷ ts)
plain_left rest ts r = comma_left (codes "plain," ++ rest) (token kinds.LowerWord (codes "plain") ∷ comma_token ∷ ts) (lower_left 112 (codes "lain") (44 ∷ rest) (comma_token ∷ ts) refl refl refl (comma_left rest ts r))

-- ---- instances

abbrev pub source_then : InstanceLineValue → List TokenValue
source_then line = token kinds.LowerWord (codes "instance") ∷ open_token ∷ token kinds.Digits (decimal line.number) ∷ comma_token ∷ label_token line.label ∷ close_token ∷ close_token ∷ dot_token ∷ []

abbrev pub instance_then : SignatureValue → ℕ → InstanceLineValue → List TokenValue
instance_then s k line = head_then 105 k (clause_then s line.literals (comma_token ∷ source_then line))

source_left : (line : InstanceLineValue) → line.number < 2 ^ 64 → IsReadableAs line.label.form line.label.text → AreLeft (codes "instance(" ++ (((decimal line.number ++ codes ",") ++ label_text line.label) ++ codes ")).\n")) (source_then line)
source_left line n l =
    let end : List ℕ = codes ").\n" in
    let tail : List TokenValue = close_token ∷ close_token ∷ dot_token ∷ [] in
    let body : List ℕ = ((decimal line.number ++ codes ",") ++ label_text line.label) ++ codes ")).\n" in
    let ts : List TokenValue = token kinds.Digits (decimal line.number) ∷ comma_token ∷ label_token line.label ∷ tail in
    lower_left 105 (codes "nstance") (40 ∷ body) (open_token ∷ ts) refl refl refl
    (open_left body ts
    (left_apart (decimal line.number ++ codes ",") (label_text line.label) (codes ")).\n") ts
    (left_apart (decimal line.number) (codes ",") (label_text line.label ++ codes ")).\n") ts
    (digits_left (decimal line.number) 44 (label_text line.label ++ codes ")).\n") (comma_token ∷ label_token line.label ∷ tail) refl (is_some line.number n)
    (comma_left (label_text line.label ++ codes ")).\n") (label_token line.label ∷ tail)
    (label_left line.label.form line.label.text 41 end tail l refl refl
    (close_left end (close_token ∷ dot_token ∷ []) (close_left (codes ".\n") (dot_token ∷ []) (dot_left (codes "\n") [] (left_blank 10 [] [] refl left_nothing))))))))))

pub instance_left : (s : SignatureValue) (k : ℕ) (line : InstanceLineValue) → k < 2 ^ 64 → line.number < 2 ^ 64 → IsReadableAs line.label.form line.label.text → AllByRecursion (IsReadableLiteral s) line.literals → AreLeft (instance_line s k line) (instance_then s k line)
instance_left s k line h n l ls =
    let d : List ℕ = decimal k in
    let c : List ℕ = clause_text s line.literals in
    let e : List ℕ = (decimal line.number ++ codes ",") ++ label_text line.label in
    let source : List ℕ = codes ",instance(" ++ (e ++ codes ")).\n") in
    let ts : List TokenValue = clause_then s line.literals (comma_token ∷ source_then line) in
    let all : List ℕ = ((((d ++ codes ",plain,") ++ c) ++ codes ",instance(") ++ e) ++ codes ")).\n" in
    lower_left 99 (codes "nf") (40 ∷ 105 ∷ all) (open_token ∷ token kinds.LowerWord (105 ∷ d) ∷ comma_token ∷ token kinds.LowerWord (codes "plain") ∷ comma_token ∷ ts) refl refl refl
    (open_left (105 ∷ all) (token kinds.LowerWord (105 ∷ d) ∷ comma_token ∷ token kinds.LowerWord (codes "plain") ∷ comma_token ∷ ts)
    (subst (λ (v : List ℕ). AreLeft (105 ∷ v) (token kinds.LowerWord (105 ∷ d) ∷ comma_token ∷ token kinds.LowerWord (codes "plain") ∷ comma_token ∷ ts)) (sym (apart d (codes ",plain,") c (codes ",instance(") e (codes ")).\n")))
    (lower_left 105 d (codes ",plain," ++ (c ++ source)) (comma_token ∷ token kinds.LowerWord (codes "plain") ∷ comma_token ∷ ts) refl (decimal_word k h) refl
    (plain_left (c ++ source) ts
    (clause_left s line.literals source (comma_token ∷ source_then line) ls refl
    (comma_left (codes "instance(" ++ (e ++ codes ")).\n")) (source_then line) (source_left line n l)))))))

-- ---- entries

abbrev pub kind_then : Kind → List TokenValue
kind_then kind = kind_token kind ∷ close_token ∷ dot_token ∷ []

abbrev pub entry_then : SignatureValue → EntryLine → List TokenValue
entry_then s line = head_then 101 line.at (literal_then s line.literal (comma_token ∷ kind_then line.kind))

kind_left : (kind : Kind) → AreLeft (kind_text kind ++ codes ").\n") (kind_then kind)
kind_left entry_kinds.Universal =
    lower_left 117 (codes "niversal") (codes ").\n") (close_token ∷ dot_token ∷ []) refl refl refl (close_left (codes ".\n") (dot_token ∷ []) (dot_left (codes "\n") [] (left_blank 10 [] [] refl left_nothing)))
kind_left entry_kinds.Parametric =
    lower_left 112 (codes "arametric") (codes ").\n") (close_token ∷ dot_token ∷ []) refl refl refl (close_left (codes ".\n") (dot_token ∷ []) (dot_left (codes "\n") [] (left_blank 10 [] [] refl left_nothing)))

pub entry_left : (s : SignatureValue) (line : EntryLine) → line.at < 2 ^ 64 → IsReadableLiteral s line.literal → AreLeft (entry_line s line) (entry_then s line)
entry_left s line h l =
    let d : List ℕ = decimal line.at in
    let c : List ℕ = literal_text s line.literal in
    let e : List ℕ = kind_text line.kind in
    let source : List ℕ = codes "," ++ (e ++ codes ").\n") in
    let ts : List TokenValue = literal_then s line.literal (comma_token ∷ kind_then line.kind) in
    let all : List ℕ = ((((d ++ codes ",plain,") ++ c) ++ codes ",") ++ e) ++ codes ").\n" in
    lower_left 99 (codes "nf") (40 ∷ 101 ∷ all) (open_token ∷ token kinds.LowerWord (101 ∷ d) ∷ comma_token ∷ token kinds.LowerWord (codes "plain") ∷ comma_token ∷ ts) refl refl refl
    (open_left (101 ∷ all) (token kinds.LowerWord (101 ∷ d) ∷ comma_token ∷ token kinds.LowerWord (codes "plain") ∷ comma_token ∷ ts)
    (subst (λ (v : List ℕ). AreLeft (101 ∷ v) (token kinds.LowerWord (101 ∷ d) ∷ comma_token ∷ token kinds.LowerWord (codes "plain") ∷ comma_token ∷ ts)) (sym (apart d (codes ",plain,") c (codes ",") e (codes ").\n")))
    (lower_left 101 d (codes ",plain," ++ (c ++ source)) (comma_token ∷ token kinds.LowerWord (codes "plain") ∷ comma_token ∷ ts) refl (decimal_word line.at h) refl
    (plain_left (c ++ source) ts
    (literal_left s line.literal source (comma_token ∷ kind_then line.kind) l refl
    (comma_left (e ++ codes ").\n") (kind_then line.kind) (kind_left line.kind)))))))

-- ---- atoms

pub atom_left : (s : SignatureValue) (a : AtomValue) → IsReadableLiteral s (record { positive = true; atom = a }) → AreLeft (atom_text s a) (literal_then s (record { positive = true; atom = a }) [])
atom_left s a h = subst (λ (v : List ℕ). AreLeft v (literal_then s (record { positive = true; atom = a }) [])) (append-nil (atom_text s a)) (literal_left s (record { positive = true; atom = a }) [] [] h tt left_nothing)

-- ---- kinds

pub universal_is : (kind : Kind) → kind_text kind ≡ codes "universal" → Some entry_kinds.Universal ≡ Some kind
universal_is entry_kinds.Universal e = refl
universal_is entry_kinds.Parametric e = let n : ◌≡◌ {A = ℕ} 10 9 = ap length e in absurd (omega (arith, n))

pub parametric_is : (kind : Kind) → (kind_text kind ≡ codes "universal" → ⊥) → Some entry_kinds.Parametric ≡ Some kind
parametric_is entry_kinds.Universal h = absurd (h refl)
parametric_is entry_kinds.Parametric h = refl
