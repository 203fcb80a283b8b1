-- The lines of answers have no line feed but their last byte.
use Rattle.std.proofs.Common.{◌≡◌, ◌≢◌, ◌<◌, ◌^◌, ℕ, Bool, true, false, List, [], ◌∷◌, ◌++◌, Option, Some, None, refl, sym, ap, ◌∙◌, append_assoc, arith}
use Rattle.std.proofs.lemmas.Fmt.{decimal_is_IsNumeral}
use Rattle.std.proofs.lemmas.Str.Parse.{digit_from_value}
use Rattle.std.specs.Str.Parse.{AllDigits}
use Rattle.std.specs.Prelude.{codes, decimal, slice_get, not, ◌==◌, if◌then◌else◌}
use Rattle.std.specs.List.{AllByRecursion, list_all}
use Rattle.me_terms.specs.Labels.{IsReadableAs, is_printable, is_digit}
use Rattle.me_terms.specs.Terms.{TermValue, Var, App, Arguments, Nil, Cons}
use Rattle.me_terms.specs.Values.{SymbolValue, SignatureValue}
use Rattle.me_terms.specs.declared.atom.Literal.{Literal}
use Rattle.me_terms.specs.declared.bounds.Bound.{Bound}
use Rattle.me_terms.specs.declared.bounds.Bound.TheVariants as bounds
use Rattle.me_terms.specs.declared.bounds.Start.{Start}
use Rattle.me_terms.specs.declared.bounds.Start.TheVariants as starts
use Rattle.me_terms.specs.declared.entry.Kind.{Kind}
use Rattle.me_terms.specs.declared.entry.Kind.TheVariants as entry_kinds
use Rattle.me_terms.specs.declared.symbol.Form.{Form}
use Rattle.me_terms.specs.declared.symbol.Form.TheVariants as form
use Rattle.cnf_text.specs.ClauseText.{symbol_text, term_text, arguments_text, others_text, literal_text, barred_text, clause_text}
use Rattle.cnf_text.specs.LabelText.{form_text, label_text}
use Rattle.tptp_tokens.specs.Bytes.{is_lower_word}
use Rattle.tptp_tokens.specs.Gaps.{IsOneLine}
use Rattle.tptp_tokens.specs.Quoted.{escaped_if, is_escaped, escaped, quoted}
use Rattle.tptp_tokens.proofs.Runs.{all_first}
use Rattle.szs_print.specs.AnswerText.{bound_text}
use Rattle.szs_print.specs.ModelText.{kind_text}
use Rattle.szs_print.specs.StatusText.{reason_line}
use Rattle.szs_read.specs.ClaimText.{instance_line, entry_line, start_line}
use Rattle.szs_read.specs.Passes.{IsLine}
use Rattle.szs_read.specs.Values.{InstanceLineValue}
use Rattle.szs_read.specs.declared.claim.EntryLine.{EntryLine}
use Rattle.szs_read.proofs.Cuts.{IsNamed, IsReadableTerm, AreReadableTerms, IsReadableLiteral}
use Rattle.szs_read.proofs.Cutting.{one_both}

printable_byte : (b : ℕ) → is_printable b ≡ true → b ≢ 10
printable_byte b h e = let k : is_printable 10 ≡ true = ap is_printable (sym e) ∙ h in cc

digit_byte : (b : ℕ) → is_digit b ≡ true → b ≢ 10
digit_byte b h e = let k : is_digit 10 ≡ true = ap is_digit (sym e) ∙ h in cc

pub coded : (text : List ℕ) → list_all (λ b. not (b == 10)) text ≡ true → IsOneLine text
coded [] h = tt
coded (b ∷ text) h =
    let k = all_first (λ x. not (x == 10)) b text h in
    ((λ e. let c : not (10 == 10) ≡ true = ap (λ (x : ℕ). not (x == 10)) (sym e) ∙ k.0 in cc), coded text k.1)

pub printed_one : (text : List ℕ) → list_all is_printable text ≡ true → IsOneLine text
printed_one [] h = tt
printed_one (b ∷ text) h = let k = all_first is_printable b text h in (printable_byte b k.0, printed_one text k.1)

digits_one : (text : List ℕ) → list_all is_digit text ≡ true → IsOneLine text
digits_one [] h = tt
digits_one (b ∷ text) h = let k = all_first is_digit b text h in (digit_byte b k.0, digits_one text k.1)

decimal_one : (n : ℕ) → n < 2 ^ 64 → IsOneLine (decimal n)
decimal_one n h = by (decimal n) (decimal_is_IsNumeral n h).0.1
  where
    by : (ds : List ℕ) → AllDigits 10 ds → IsOneLine ds
    by [] h = tt
    by (c ∷ ds) h = let r = digit_from_value c h.0 in ((λ e. absurd (omega (arith, e, r.0))), by ds h.1)

escaped_one : (q : ℕ) (text : List ℕ) → list_all is_printable text ≡ true → IsOneLine (escaped q text)
escaped_one q [] h = tt
escaped_one q (b ∷ text) h =
    let k = all_first is_printable b text h in
    one_both (escaped_if (is_escaped q b) b) (escaped q text) (by (is_escaped q b) k.0) (escaped_one q text k.1)
  where
    by : (v : Bool) → is_printable b ≡ true → IsOneLine (escaped_if v b)
    by true k = ((λ e. absurd (omega (arith, e))), (printable_byte b k, tt))
    by false k = (printable_byte b k, tt)

quoted_one : (q : ℕ) (text : List ℕ) → q ≢ 10 → list_all is_printable text ≡ true → IsOneLine (quoted q text)
quoted_one q text n h = (n, one_both (escaped q text) (q ∷ []) (escaped_one q text h) (n, tt))

pub label_one : (f : Form) (text : List ℕ) → IsReadableAs f text → IsOneLine (form_text f text)
label_one form.Word text h = by (is_lower_word text)
  where
    by : (v : Bool) → IsOneLine (if v then text else quoted 39 text)
    by true = printed_one text h.1
    by false = quoted_one 39 text (λ e. absurd (omega (arith, e))) h.1
label_one form.Distinct text h = quoted_one 34 text (λ e. absurd (omega (arith, e))) h
label_one form.Number text h = digits_one text h.1

symbol_one : (o : Option SymbolValue) → IsNamed o → IsOneLine (symbol_text o)
symbol_one None h = tt
symbol_one (Some s) h = label_one s.label.form s.label.text h.0

module _ (s : SignatureValue) where
  mutual
    term_one : (t : TermValue) → IsReadableTerm s.functions t → IsOneLine (term_text s t)
    term_one (Var x) h = ((λ e. absurd (omega (arith, e))), decimal_one x (omega (arith, h)))
    term_one (App f ts) h = one_both (symbol_text (slice_get s.functions f)) (arguments_text s ts) (symbol_one (slice_get s.functions f) h.0) (arguments_one ts h.1)

    arguments_one : (ts : Arguments) → AreReadableTerms s.functions ts → IsOneLine (arguments_text s ts)
    arguments_one Nil h = tt
    arguments_one (Cons t ts) h = (
      (λ e. absurd (omega (arith, e))),
      one_both (term_text s t ++ others_text s ts) (codes ")") (one_both (term_text s t) (others_text s ts) (term_one t h.0) (others_one ts h.1)) ((λ e. absurd (omega (arith, e))), tt),
    )

    others_one : (ts : Arguments) → AreReadableTerms s.functions ts → IsOneLine (others_text s ts)
    others_one Nil h = tt
    others_one (Cons t ts) h = ((λ e. absurd (omega (arith, e))), one_both (term_text s t) (others_text s ts) (term_one t h.0) (others_one ts h.1))

  pub literal_one : (l : Literal) → IsReadableLiteral s l → IsOneLine (literal_text s l)
  literal_one l h = by l.positive
    where
      atom : IsOneLine (symbol_text (slice_get s.predicates l.atom.pred) ++ arguments_text s l.atom.args)
      atom = one_both (symbol_text (slice_get s.predicates l.atom.pred)) (arguments_text s l.atom.args) (symbol_one (slice_get s.predicates l.atom.pred) h.predicate) (arguments_one l.atom.args h.arguments)

      by : (b : Bool) → IsOneLine ((if b then [] else codes "~") ++ (symbol_text (slice_get s.predicates l.atom.pred) ++ arguments_text s l.atom.args))
      by true = atom
      by false = ((λ e. absurd (omega (arith, e))), atom)

  barred_one : (ls : List Literal) → AllByRecursion (IsReadableLiteral s) ls → IsOneLine (barred_text s ls)
  barred_one [] h = tt
  barred_one (l ∷ ls) h =
      one_both (codes " | " ++ literal_text s l) (barred_text s ls)
      ((λ e. absurd (omega (arith, e))), ((λ e. absurd (omega (arith, e))), ((λ e. absurd (omega (arith, e))), literal_one l h.0)))
      (barred_one ls h.1)

  pub clause_one : (ls : List Literal) → AllByRecursion (IsReadableLiteral s) ls → IsOneLine (clause_text s ls)
  clause_one [] h = coded (codes "$false") refl
  clause_one (l ∷ ls) h = one_both (literal_text s l) (barred_text s ls) (literal_one l h.0) (barred_one ls h.1)

-- ---- fixed texts

-- a text and then the end of a line
ended : (text end : List ℕ) → IsOneLine text → list_all (λ b. not (b == 10)) end ≡ true → IsLine (text ++ (end ++ 10 ∷ []))
ended text end h k = (text ++ end, sym (append_assoc text end (10 ∷ [])), one_both text end h (coded end k))

pub instance_one : (s : SignatureValue) (k : ℕ) (line : InstanceLineValue) → k < 2 ^ 64 → line.number < 2 ^ 64 → IsReadableAs line.label.form line.label.text → AllByRecursion (IsReadableLiteral s) line.literals → IsLine (instance_line s k line)
instance_one s k line h n l ls =
    let a : List ℕ = codes "cnf(i" ++ decimal k in
    let b : List ℕ = a ++ codes ",plain," in
    let c : List ℕ = b ++ clause_text s line.literals in
    let d : List ℕ = c ++ codes ",instance(" in
    let e : List ℕ = (decimal line.number ++ codes ",") ++ label_text line.label in
    ended (d ++ e) (codes ")).")
    (one_both d e
    (one_both c (codes ",instance(") (one_both b (clause_text s line.literals) (one_both a (codes ",plain,") (one_both (codes "cnf(i") (decimal k) (coded (codes "cnf(i") refl) (decimal_one k h)) (coded (codes ",plain,") refl)) (clause_one s line.literals ls)) (coded (codes ",instance(") refl))
    (one_both (decimal line.number ++ codes ",") (label_text line.label) (one_both (decimal line.number) (codes ",") (decimal_one line.number n) (coded (codes ",") refl)) (label_one line.label.form line.label.text l))) refl

kind_one : (kind : Kind) → IsOneLine (kind_text kind)
kind_one entry_kinds.Universal = coded (codes "universal") refl
kind_one entry_kinds.Parametric = coded (codes "parametric") refl

pub entry_one : (s : SignatureValue) (line : EntryLine) → line.at < 2 ^ 64 → IsReadableLiteral s line.literal → IsLine (entry_line s line)
entry_one s line h l =
    let a : List ℕ = codes "cnf(e" ++ decimal line.at in
    let b : List ℕ = a ++ codes ",plain," in
    let c : List ℕ = b ++ literal_text s line.literal in
    let d : List ℕ = c ++ codes "," in
    ended (d ++ kind_text line.kind) (codes ").")
    (one_both d (kind_text line.kind)
    (one_both c (codes ",") (one_both b (literal_text s line.literal) (one_both a (codes ",plain,") (one_both (codes "cnf(e") (decimal line.at) (coded (codes "cnf(e") refl) (decimal_one line.at h)) (coded (codes ",plain,") refl)) (literal_one s line.literal l)) (coded (codes ",") refl))
    (kind_one line.kind)) refl

pub start_one : (start : Start) → IsLine (start_line start)
start_one starts.Negative = (codes "% default false", refl, coded (codes "% default false") refl)
start_one starts.Positive = (codes "% default true", refl, coded (codes "% default true") refl)

pub reason_one : (bound : Bound) → IsLine (reason_line (bound_text bound))
reason_one bounds.Depth = (codes "% reason depth", refl, coded (codes "% reason depth") refl)
reason_one bounds.Weight = (codes "% reason weight", refl, coded (codes "% reason weight") refl)
reason_one bounds.Literals = (codes "% reason literals", refl, coded (codes "% reason literals") refl)
reason_one bounds.List = (codes "% reason list", refl, coded (codes "% reason list") refl)
