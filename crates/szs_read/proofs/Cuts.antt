-- The texts of lines are cut into their tokens.
use Rattle.std.proofs.Common.{◌≡◌, ◌≢◌, ◌<◌, ◌≤◌, ◌^◌, ℕ, Bool, true, false, List, [], ◌∷◌, ◌++◌, length, refl, sym, ap, subst, ◌∙◌, append_assoc, arith}
use Rattle.std.specs.Prelude.{codes, decimal, slice_get, if◌then◌else◌, Option, Some, None}
use Rattle.std.specs.List.{AllByRecursion, list_all}
use Rattle.me_terms.specs.Labels.{IsReadableAs}
use Rattle.me_terms.specs.TermEqualityLaws.{both_parts}
use Rattle.me_terms.specs.Terms.{TermValue, Var, App, Arguments, Nil, Cons}
use Rattle.me_terms.specs.Values.{SymbolValue, SignatureValue}
use Rattle.me_terms.specs.declared.atom.Literal.{Literal}
use Rattle.me_terms.specs.declared.symbol.Form.{Form}
use Rattle.me_terms.specs.declared.symbol.Form.TheVariants as form
use Rattle.cnf_text.specs.ClauseText.{symbol_text, term_text, arguments_text, others_text, atom_text, literal_text, barred_text, clause_text}
use Rattle.cnf_text.specs.LabelText.{form_text}
use Rattle.tptp_tokens.specs.Bytes.{is_blank, is_lower_letter, is_word_byte, is_lower_word}
use Rattle.tptp_tokens.specs.Fronts.{Stops}
use Rattle.tptp_tokens.specs.Quoted.{quoted}
use Rattle.tptp_tokens.specs.Tokens.{TokenValue, IsText, IsToken, IsFirst}
use Rattle.tptp_tokens.specs.declared.token.TokenKind.{TokenKind}
use Rattle.tptp_tokens.specs.declared.token.TokenKind.TheVariants as kinds
use Rattle.tptp_tokens.proofs.OneCut.{first_takes}
use Rattle.tptp_grammar.specs.Terminals as terminals
use Rattle.tptp_grammar.specs.Terminals.{Terminal, terminal_as}
use Rattle.tptp_grammar.specs.Printed.{Printed, plain_token}
use Rattle.cnf_writer.proofs.Marks.{Next, blank_gap, reads_nothing, ends_number, next_sign, next_lower, next_variable, next_false, next_quoted, next_distinct, next_digits}
use Rattle.cnf_writer.proofs.Reading.{decimal_word}
use Rattle.szs_read.specs.LineTokens.{ComesFirst, AreLeft, token, word_token, form_token, symbol_token, variable_token, open_token, close_token, comma_token, dot_token, bar_token, tilde_token, false_token, term_then, arguments_then, others_then, atom_then, signed_then, literal_then, barred_then, clause_then}
use Rattle.szs_read.proofs.Tokens.{first_lawful}

-- ---- one token

-- the token of a terminal, where it has only one
abbrev back : Terminal → TokenValue
back (terminals.LowerWord text) = token kinds.LowerWord text
back (terminals.SingleQuoted text) = token kinds.SingleQuoted text
back (terminals.Variable text) = token kinds.Variable text
back (terminals.Distinct text) = token kinds.Distinct text
back (terminals.DollarWord text) = token kinds.DollarWord text
back (terminals.Digits text) = token kinds.Digits text
back terminals.Number = token kinds.Bad []
back terminals.OpenRound = open_token
back terminals.CloseRound = close_token
back terminals.OpenSquare = token kinds.Bad []
back terminals.CloseSquare = token kinds.Bad []
back terminals.Comma = comma_token
back terminals.Dot = dot_token
back terminals.Bar = bar_token
back terminals.Tilde = tilde_token
back terminals.Equality = token kinds.Bad []
back terminals.OtherSign = token kinds.Bad []
back terminals.Bad = token kinds.Bad []

abbrev has_one : Terminal → Bool
has_one (terminals.LowerWord text) = true
has_one (terminals.SingleQuoted text) = true
has_one (terminals.Variable text) = true
has_one (terminals.Distinct text) = true
has_one (terminals.DollarWord text) = true
has_one (terminals.Digits text) = true
has_one terminals.OpenRound = true
has_one terminals.CloseRound = true
has_one terminals.Comma = true
has_one terminals.Dot = true
has_one terminals.Bar = true
has_one terminals.Tilde = true
has_one t = false

is_back : (k : TokenKind) (text : List ℕ) → IsText k text → has_one (terminal_as k text) ≡ true → back (terminal_as k text) ≡ token k text
is_back kinds.LowerWord text h e = refl
is_back kinds.Variable text h e = refl
is_back kinds.DollarWord text h e = refl
is_back kinds.SingleQuoted text h e = refl
is_back kinds.Distinct text h e = refl
is_back kinds.Digits text h e = refl
is_back kinds.Number text h e = absurd cc
is_back kinds.OpenRound text h e = ap (token kinds.OpenRound) (sym h)
is_back kinds.CloseRound text h e = ap (token kinds.CloseRound) (sym h)
is_back kinds.OpenSquare text h e = absurd cc
is_back kinds.CloseSquare text h e = absurd cc
is_back kinds.Comma text h e = ap (token kinds.Comma) (sym h)
is_back kinds.Dot text h e = ap (token kinds.Dot) (sym h)
is_back kinds.Bar text h e = ap (token kinds.Bar) (sym h)
is_back kinds.Tilde text h e = ap (token kinds.Tilde) (sym h)
is_back kinds.Equal text h e = absurd cc
is_back kinds.NotEqual text h e = absurd cc
is_back kinds.OtherSign text h e = absurd cc
is_back kinds.Bad text h e = absurd h

not_bad : (k : TokenKind) (text : List ℕ) → has_one (terminal_as k text) ≡ true → k ≡ kinds.Bad → ⊥
not_bad k text h e =
    let f : has_one (terminal_as kinds.Bad text) ≡ true = subst (λ (x : TokenKind). has_one (terminal_as x text) ≡ true) e h in
    cc

abbrev as_terminal : Terminal → Printed
as_terminal t = plain_token t

comes : (bytes rest : List ℕ) (t : Terminal) → has_one t ≡ true → Next bytes (as_terminal t) rest → ComesFirst bytes (back t) rest
comes bytes rest t h n =
    let one : has_one (terminal_as n.token.kind n.token.text) ≡ true = ap has_one n.is ∙ h in
    let lawful : IsToken n.token = first_lawful n.token.kind n.token.text n.middle rest (not_bad n.token.kind n.token.text one) n.first in
    let same : n.token ≡ back t = sym (is_back n.token.kind n.token.text lawful one) ∙ ap back n.is in
    record {
      middle = n.middle;
      gap = n.gap;
      within = n.within;
      first = subst (λ (x : TokenValue). IsFirst x n.middle rest) same n.first;
      lawful = subst IsToken same lawful;
    }

-- ---- what is left

pub left_nothing : AreLeft [] []
left_nothing = reads_nothing

pub left_blank : (c : ℕ) (bytes : List ℕ) (ts : List TokenValue) → is_blank c ≡ true → AreLeft bytes ts → AreLeft (c ∷ bytes) ts
left_blank c bytes [] h r = blank_gap c bytes [] h r
left_blank c bytes (t ∷ ts) h r =
    let n = r.1 in
    (r.0, record { middle = n.middle; gap = blank_gap c bytes n.middle h n.gap; within = omega (arith, n.within); first = n.first; lawful = n.lawful }, r.2)

pub left_apart : (u v rest : List ℕ) (ts : List TokenValue) → AreLeft (u ++ (v ++ rest)) ts → AreLeft ((u ++ v) ++ rest) ts
left_apart u v rest ts r = subst (λ (x : List ℕ). AreLeft x ts) (sym (append_assoc u v rest)) r

pub open_left : (rest : List ℕ) (ts : List TokenValue) → AreLeft rest ts → AreLeft (40 ∷ rest) (open_token ∷ ts)
open_left rest ts r = (rest, comes (40 ∷ rest) rest terminals.OpenRound refl (next_sign 40 kinds.OpenRound (as_terminal terminals.OpenRound) rest refl refl refl (λ e. cc) refl), r)

pub close_left : (rest : List ℕ) (ts : List TokenValue) → AreLeft rest ts → AreLeft (41 ∷ rest) (close_token ∷ ts)
close_left rest ts r = (rest, comes (41 ∷ rest) rest terminals.CloseRound refl (next_sign 41 kinds.CloseRound (as_terminal terminals.CloseRound) rest refl refl refl (λ e. cc) refl), r)

pub comma_left : (rest : List ℕ) (ts : List TokenValue) → AreLeft rest ts → AreLeft (44 ∷ rest) (comma_token ∷ ts)
comma_left rest ts r = (rest, comes (44 ∷ rest) rest terminals.Comma refl (next_sign 44 kinds.Comma (as_terminal terminals.Comma) rest refl refl refl (λ e. cc) refl), r)

pub dot_left : (rest : List ℕ) (ts : List TokenValue) → AreLeft rest ts → AreLeft (46 ∷ rest) (dot_token ∷ ts)
dot_left rest ts r = (rest, comes (46 ∷ rest) rest terminals.Dot refl (next_sign 46 kinds.Dot (as_terminal terminals.Dot) rest refl refl refl (λ e. cc) refl), r)

pub bar_left : (rest : List ℕ) (ts : List TokenValue) → AreLeft rest ts → AreLeft (124 ∷ rest) (bar_token ∷ ts)
bar_left rest ts r = (rest, comes (124 ∷ rest) rest terminals.Bar refl (next_sign 124 kinds.Bar (as_terminal terminals.Bar) rest refl refl refl (λ e. cc) refl), r)

pub tilde_left : (rest : List ℕ) (ts : List TokenValue) → AreLeft rest ts → AreLeft (126 ∷ rest) (tilde_token ∷ ts)
tilde_left rest ts r = (rest, comes (126 ∷ rest) rest terminals.Tilde refl (next_sign 126 kinds.Tilde (as_terminal terminals.Tilde) rest refl refl refl (λ e. cc) refl), r)

pub false_left : (rest : List ℕ) (ts : List TokenValue) → Stops is_word_byte rest → AreLeft rest ts → AreLeft (codes "$false" ++ rest) (false_token ∷ ts)
false_left rest ts s r = (rest, comes (codes "$false" ++ rest) rest (terminals.DollarWord (codes "$false")) refl (next_false rest (as_terminal (terminals.DollarWord (codes "$false"))) s refl), r)

pub lower_left : (b : ℕ) (w rest : List ℕ) (ts : List TokenValue) → is_lower_letter b ≡ true → list_all is_word_byte w ≡ true → Stops is_word_byte rest → AreLeft rest ts → AreLeft (b ∷ (w ++ rest)) (token kinds.LowerWord (b ∷ w) ∷ ts)
lower_left b w rest ts h k s r = (rest, comes (b ∷ (w ++ rest)) rest (terminals.LowerWord (b ∷ w)) refl (next_lower b w rest (as_terminal (terminals.LowerWord (b ∷ w))) h k s refl), r)

pub variable_left : (x : ℕ) (rest : List ℕ) (ts : List TokenValue) → x < 2 ^ 64 → Stops is_word_byte rest → AreLeft rest ts → AreLeft (88 ∷ (decimal x ++ rest)) (variable_token x ∷ ts)
variable_left x rest ts h s r = (rest, comes (88 ∷ (decimal x ++ rest)) rest (terminals.Variable (88 ∷ decimal x)) refl (next_variable (decimal x) rest (as_terminal (terminals.Variable (88 ∷ decimal x))) (decimal_word x h) s refl), r)

pub digits_left : (text : List ℕ) (b : ℕ) (more : List ℕ) (ts : List TokenValue) → ends_number b ≡ true → IsReadableAs form.Number text → AreLeft (b ∷ more) ts → AreLeft (text ++ b ∷ more) (token kinds.Digits text ∷ ts)
digits_left text b more ts s h r = (b ∷ more, comes (text ++ b ∷ more) (b ∷ more) (terminals.Digits text) refl (next_digits text b more (as_terminal (terminals.Digits text)) s h refl), r)

pub distinct_left : (text rest : List ℕ) (ts : List TokenValue) → IsReadableAs form.Distinct text → AreLeft rest ts → AreLeft (form_text form.Distinct text ++ rest) (form_token form.Distinct text ∷ ts)
distinct_left text rest ts h r = (rest, comes (quoted 34 text ++ rest) rest (terminals.Distinct text) refl (next_distinct text rest (as_terminal (terminals.Distinct text)) h refl), r)

bare_left : (text rest : List ℕ) (ts : List TokenValue) → is_lower_word text ≡ true → Stops is_word_byte rest → AreLeft rest ts → AreLeft (text ++ rest) (token kinds.LowerWord text ∷ ts)
bare_left [] rest ts h s r = absurd cc
bare_left (b ∷ w) rest ts h s r = let k = both_parts (is_lower_letter b) (list_all is_word_byte w) h in lower_left b w rest ts k.0 k.1 s r

pub word_left : (text rest : List ℕ) (ts : List TokenValue) → IsReadableAs form.Word text → Stops is_word_byte rest → AreLeft rest ts → AreLeft (form_text form.Word text ++ rest) (form_token form.Word text ∷ ts)
word_left text rest ts h s r = by (is_lower_word text) refl
  where
    by : (b : Bool) → is_lower_word text ≡ b → AreLeft ((if b then text else quoted 39 text) ++ rest) (word_token b text ∷ ts)
    by true f = bare_left text rest ts f s r
    by false f = (rest, comes (quoted 39 text ++ rest) rest (terminals.SingleQuoted text) refl (next_quoted text rest (as_terminal (terminals.SingleQuoted text)) h.0 h.1 refl), r)

-- a label before a byte that goes on with no word and no number
pub label_left : (f : Form) (text : List ℕ) (b : ℕ) (more : List ℕ) (ts : List TokenValue) → IsReadableAs f text → is_word_byte b ≡ false → ends_number b ≡ true → AreLeft (b ∷ more) ts → AreLeft (form_text f text ++ b ∷ more) (form_token f text ∷ ts)
label_left form.Word text b more ts h s e r = word_left text (b ∷ more) ts h s r
label_left form.Distinct text b more ts h s e r = distinct_left text (b ∷ more) ts h r
label_left form.Number text b more ts h s e r = digits_left text b more ts e h r

-- a function's or a predicate's label
symbol_left : (f : Form) (text rest : List ℕ) (ts : List TokenValue) → IsReadableAs f text → f ≢ form.Number → Stops is_word_byte rest → AreLeft rest ts → AreLeft (form_text f text ++ rest) (form_token f text ∷ ts)
symbol_left form.Word text rest ts h n s r = word_left text rest ts h s r
symbol_left form.Distinct text rest ts h n s r = distinct_left text rest ts h r
symbol_left form.Number text rest ts h n s r = absurd (n refl)

pub left_length : (bytes : List ℕ) (ts : List TokenValue) → AreLeft bytes ts → length ts ≤ length bytes
left_length bytes [] h = omega arith
left_length bytes (t ∷ ts) h =
    let n = h.1 in
    let lt = first_takes t n.middle h.0 n.first in
    omega (arith, left_length h.0 ts h.2, lt, n.within)

-- ---- terms

-- such a symbol is there, and a file can have it
abbrev pub IsNamed : Option SymbolValue → Type 0
IsNamed None = ⊥
IsNamed (Some s) = IsReadableAs s.label.form s.label.text × (s.label.form ≢ form.Number)

option_left : (o : Option SymbolValue) (rest : List ℕ) (ts : List TokenValue) → IsNamed o → Stops is_word_byte rest → AreLeft rest ts → AreLeft (symbol_text o ++ rest) (symbol_token o ∷ ts)
option_left None rest ts h s r = absurd h
option_left (Some x) rest ts h s r = symbol_left x.label.form x.label.text rest ts h.0 h.1 s r

-- each function of the term is such a symbol, and the variables have 32 bits
abbrev mutual
  pub IsReadableTerm : List SymbolValue → TermValue → Type 0
  IsReadableTerm functions (Var x) = x < 2 ^ 32
  IsReadableTerm functions (App f ts) = IsNamed (slice_get functions f) × AreReadableTerms functions ts

  pub AreReadableTerms : List SymbolValue → Arguments → Type 0
  AreReadableTerms functions Nil = Unit {0}
  AreReadableTerms functions (Cons t ts) = IsReadableTerm functions t × AreReadableTerms functions ts

module _ (signature : SignatureValue) where
  arguments_stop : (ts : Arguments) (rest : List ℕ) → Stops is_word_byte rest → Stops is_word_byte (arguments_text signature ts ++ rest)
  arguments_stop Nil rest s = s
  arguments_stop (Cons t ts) rest s = refl

  others_stop : (ts : Arguments) (rest : List ℕ) → Stops is_word_byte (others_text signature ts ++ 41 ∷ rest)
  others_stop Nil rest = refl
  others_stop (Cons t ts) rest = refl

  mutual
    term_left : (t : TermValue) (rest : List ℕ) (ps : List TokenValue) → IsReadableTerm signature.functions t → Stops is_word_byte rest → AreLeft rest ps → AreLeft (term_text signature t ++ rest) (term_then signature t ps)
    term_left (Var x) rest ps v s r = variable_left x rest ps (omega (arith, v)) s r
    term_left (App f ts) rest ps v s r =
        left_apart (symbol_text (slice_get signature.functions f)) (arguments_text signature ts) rest (term_then signature (App f ts) ps)
        (option_left (slice_get signature.functions f) (arguments_text signature ts ++ rest) (arguments_then signature ts ps) v.0 (arguments_stop ts rest s) (arguments_left ts rest ps v.1 s r))

    arguments_left : (ts : Arguments) (rest : List ℕ) (ps : List TokenValue) → AreReadableTerms signature.functions ts → Stops is_word_byte rest → AreLeft rest ps → AreLeft (arguments_text signature ts ++ rest) (arguments_then signature ts ps)
    arguments_left Nil rest ps v s r = r
    arguments_left (Cons t ts) rest ps v s r =
        let others : List ℕ = others_text signature ts in
        let tail : List TokenValue = others_then signature ts ps in
        let whole : List TokenValue = term_then signature t tail in
        open_left ((term_text signature t ++ others ++ 41 ∷ []) ++ rest) whole
        (left_apart (term_text signature t ++ others) (41 ∷ []) rest whole
        (left_apart (term_text signature t) others (41 ∷ rest) whole
        (term_left t (others ++ 41 ∷ rest) tail v.0 (others_stop ts rest)
        (others_left ts rest ps v.1 r))))

    others_left : (ts : Arguments) (rest : List ℕ) (ps : List TokenValue) → AreReadableTerms signature.functions ts → AreLeft rest ps → AreLeft (others_text signature ts ++ 41 ∷ rest) (others_then signature ts ps)
    others_left Nil rest ps v r = close_left rest ps r
    others_left (Cons t ts) rest ps v r =
        let others : List ℕ = others_text signature ts in
        let tail : List TokenValue = others_then signature ts ps in
        comma_left ((term_text signature t ++ others) ++ 41 ∷ rest) (term_then signature t tail)
        (left_apart (term_text signature t) others (41 ∷ rest) (term_then signature t tail)
        (term_left t (others ++ 41 ∷ rest) tail v.0 (others_stop ts rest)
        (others_left ts rest ps v.1 r)))

  -- ---- literals

  -- its symbols can be read, and its variables have 32 bits
  pub record IsReadableLiteral (l : Literal) : Type 0 where
    pub predicate : IsNamed (slice_get signature.predicates l.atom.pred)
    pub arguments : AreReadableTerms signature.functions l.atom.args

  atom_left : (l : Literal) (rest : List ℕ) (ps : List TokenValue) → IsReadableLiteral l → Stops is_word_byte rest → AreLeft rest ps → AreLeft (atom_text signature l.atom ++ rest) (atom_then signature l.atom ps)
  atom_left l rest ps v s r =
      left_apart (symbol_text (slice_get signature.predicates l.atom.pred)) (arguments_text signature l.atom.args) rest (atom_then signature l.atom ps)
      (option_left (slice_get signature.predicates l.atom.pred) (arguments_text signature l.atom.args ++ rest) (arguments_then signature l.atom.args ps) v.predicate (arguments_stop l.atom.args rest s) (arguments_left l.atom.args rest ps v.arguments s r))

  pub literal_left : (l : Literal) (rest : List ℕ) (ps : List TokenValue) → IsReadableLiteral l → Stops is_word_byte rest → AreLeft rest ps → AreLeft (literal_text signature l ++ rest) (literal_then signature l ps)
  literal_left l rest ps v s r = by l.positive
    where
      by : (b : Bool) → AreLeft (((if b then [] else codes "~") ++ atom_text signature l.atom) ++ rest) (signed_then signature b l.atom ps)
      by true = atom_left l rest ps v s r
      by false = tilde_left (atom_text signature l.atom ++ rest) (atom_then signature l.atom ps) (atom_left l rest ps v s r)

  barred_stop : (ls : List Literal) (rest : List ℕ) → Stops is_word_byte rest → Stops is_word_byte (barred_text signature ls ++ rest)
  barred_stop [] rest s = s
  barred_stop (l ∷ ls) rest s = refl

  barred_left : (ls : List Literal) (rest : List ℕ) (ps : List TokenValue) → AllByRecursion IsReadableLiteral ls → Stops is_word_byte rest → AreLeft rest ps → AreLeft (barred_text signature ls ++ rest) (barred_then signature ls ps)
  barred_left [] rest ps v s r = r
  barred_left (l ∷ ls) rest ps v s r =
      let barred : List ℕ = barred_text signature ls in
      let tail : List TokenValue = barred_then signature ls ps in
      left_blank 32 (124 ∷ 32 ∷ ((literal_text signature l ++ barred) ++ rest)) (bar_token ∷ literal_then signature l tail) refl
      (bar_left (32 ∷ ((literal_text signature l ++ barred) ++ rest)) (literal_then signature l tail)
      (left_blank 32 ((literal_text signature l ++ barred) ++ rest) (literal_then signature l tail) refl
      (left_apart (literal_text signature l) barred rest (literal_then signature l tail)
      (literal_left l (barred ++ rest) tail v.0 (barred_stop ls rest s)
      (barred_left ls rest ps v.1 s r)))))

  pub clause_left : (ls : List Literal) (rest : List ℕ) (ps : List TokenValue) → AllByRecursion IsReadableLiteral ls → Stops is_word_byte rest → AreLeft rest ps → AreLeft (clause_text signature ls ++ rest) (clause_then signature ls ps)
  clause_left [] rest ps v s r = false_left rest ps s r
  clause_left (l ∷ ls) rest ps v s r =
      left_apart (literal_text signature l) (barred_text signature ls) rest (literal_then signature l (barred_then signature ls ps))
      (literal_left l (barred_text signature ls ++ rest) (barred_then signature ls ps) v.0 (barred_stop ls rest s) (barred_left ls rest ps v.1 s r))
