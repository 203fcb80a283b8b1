-- The text of a problem is read as the tokens of its tree.
use Rattle.std.proofs.Common.{◌≡◌, ◌≢◌, ◌<◌, ◌≤◌, ◌^◌, ℕ, suc, Bool, true, false, List, [], ◌∷◌, ◌++◌, Option, refl, sym, subst, arith}
use Rattle.std.proofs.lemmas.Bool.Decides.{nat_tests}
use Rattle.std.proofs.lemmas.Fmt.{decimal_is_IsNumeral}
use Rattle.std.proofs.lemmas.Str.Parse.{digit_from_value}
use Rattle.std.specs.Str.Parse.{AllDigits}
use Rattle.std.specs.Prelude.{codes, decimal, slice_get, if◌then◌else◌}
use Rattle.std.specs.List.{AllByRecursion, list_all}
use Rattle.me_terms.specs.Labels.{IsReadableAs, IsClauseLabel}
use Rattle.me_terms.specs.Signatures.{takes, is_known, are_known, is_known_atom}
use Rattle.me_terms.specs.TermEqualityLaws.{both_parts}
use Rattle.me_terms.specs.Terms.{TermValue, Var, App, Arguments, Nil, Cons, AtomValue}
use Rattle.me_terms.specs.Validity.{clause_variables}
use Rattle.me_terms.specs.Values.{LabelValue, SymbolValue, SignatureValue, ClauseValue}
use Rattle.me_terms.specs.Variables.{term_variables, variables_of, count}
use Rattle.me_terms.specs.declared.atom.Literal.{Literal}
use Rattle.me_terms.specs.declared.symbol.Form.{Form}
use Rattle.me_terms.specs.declared.symbol.Form.TheVariants as form
use Rattle.cnf_text.specs.ClauseText.{symbol_text, term_text, arguments_text, others_text, atom_text, literal_text, barred_text, clause_text}
use Rattle.cnf_text.specs.LabelText.{form_text, label_text}
use Rattle.tptp_tokens.specs.Bytes.{is_lower_letter, is_word_byte, is_lower_word}
use Rattle.tptp_tokens.specs.Quoted.{quoted}
use Rattle.tptp_tokens.specs.Fronts.{Stops}
use Rattle.tptp_tokens.specs.declared.token.TokenKind.TheVariants as kinds
use Rattle.tptp_tokens.proofs.Runs.{all_more}
use Rattle.tptp_grammar.specs.Terminals.{LowerWord, OpenRound, CloseRound, Comma, Dot, Bar, Tilde}
use Rattle.tptp_grammar.specs.Printed.{Printed, plain_token, as_part, name_terminal, truth_terminal, label_terminal, term_then, arguments_then, others_then, has_none, atom_then, literal_then, barred_then, formula_then, printed}
use Rattle.tptp_grammar.specs.declared.part.Part.{Part}
use Rattle.tptp_grammar.specs.declared.part.Part.TheVariants.{Formula as FormulaPart, Role as RolePart, Negative as NegativePart, Positive as PositivePart, Atom as AtomPart, Argument as ArgumentPart, Label as LabelPart, OpenArguments, End as EndPart}
use Rattle.cnf_writer.specs.ProblemText.{clause_lines}
use Rattle.cnf_writer.proofs.Marks.{Reads, reads_nothing, reads_blank, reads_apart, reads_sign, reads_lower, reads_variable, reads_false, reads_quoted, reads_distinct, reads_digits}
use Rattle.cnf_writer.proofs.Places.{Small}
use Rattle.cnf_writer.proofs.Trees.{name_if, name_of, label_as, applied, term_tree, terms_tree, predicate, atom_tree, literal_tree, literal_trees, formula_tree, clauses_tree, Entry, a_word, an_object, entry, WordEntry, word_entry, nil_of, LawfulSignature, all_front, all_back}

-- ---- names, labels and variables

word_digit : (c : ℕ) → 48 ≤ c → c ≤ 57 → is_word_byte c ≡ true
word_digit c h k = grind (arith, nat_tests)

digits_word : (ds : List ℕ) → AllDigits 10 ds → list_all is_word_byte ds ≡ true
digits_word [] h = refl
digits_word (c ∷ ds) h = let r = digit_from_value c h.0 in all_more is_word_byte c ds (word_digit c r.0 r.1) (digits_word ds h.1)

pub decimal_word : (n : ℕ) → n < 2 ^ 64 → list_all is_word_byte (decimal n) ≡ true
decimal_word n h = digits_word (decimal n) (decimal_is_IsNumeral n h).0.1

bare_reads : (text rest : List ℕ) (p : Printed) (ps : List Printed) → is_lower_word text ≡ true → Stops is_word_byte rest → LowerWord text ≡ p.terminal → Reads rest ps → Reads (text ++ rest) (p ∷ ps)
bare_reads [] rest p ps h s e r = absurd cc
bare_reads (b ∷ w) rest p ps h s e r =
    let k = both_parts (is_lower_letter b) (list_all is_word_byte w) h in
    reads_lower b w rest p ps k.0 k.1 s e r

pub name_reads : (text rest : List ℕ) (p : Printed) (ps : List Printed) → IsReadableAs form.Word text → Stops is_word_byte rest → name_terminal (name_of text) ≡ p.terminal → Reads rest ps → Reads (form_text form.Word text ++ rest) (p ∷ ps)
name_reads text rest p ps h s e r = by (is_lower_word text) refl e
  where
    by : (b : Bool) → is_lower_word text ≡ b → name_terminal (name_if b text) ≡ p.terminal → Reads ((if b then text else quoted 39 text) ++ rest) (p ∷ ps)
    by true f e = bare_reads text rest p ps f s e r
    by false f e = reads_quoted text rest p ps h.0 h.1 e r

label_reads : (f : Form) (text more : List ℕ) (ps : List Printed) → IsReadableAs f text → f ≢ form.Distinct → Reads (44 ∷ more) ps → Reads (form_text f text ++ 44 ∷ more) (as_part LabelPart (label_terminal (label_as f text)) ∷ ps)
label_reads form.Word text more ps h n r = name_reads text (44 ∷ more) (as_part LabelPart (name_terminal (name_of text))) ps h refl refl r
label_reads form.Distinct text more ps h n r = absurd (n refl)
label_reads form.Number text more ps h n r = reads_digits text 44 more (as_part LabelPart (label_terminal (label_as form.Number text))) ps refl h refl r

-- ---- signs

comma_reads : (rest : List ℕ) (ps : List Printed) → Reads rest ps → Reads (44 ∷ rest) (plain_token Comma ∷ ps)
comma_reads rest ps r = reads_sign 44 kinds.Comma (plain_token Comma) rest ps refl refl refl (λ e. cc) refl r

open_reads : (part : Part) (rest : List ℕ) (ps : List Printed) → Reads rest ps → Reads (40 ∷ rest) (as_part part OpenRound ∷ ps)
open_reads part rest ps r = reads_sign 40 kinds.OpenRound (as_part part OpenRound) rest ps refl refl refl (λ e. cc) refl r

close_reads : (p : Printed) (rest : List ℕ) (ps : List Printed) → CloseRound ≡ p.terminal → Reads rest ps → Reads (41 ∷ rest) (p ∷ ps)
close_reads p rest ps e r = reads_sign 41 kinds.CloseRound p rest ps refl refl refl (λ e. cc) e r

-- ---- the frame of a line

head_reads : (rest : List ℕ) (ps : List Printed) → Reads rest ps → Reads (codes "cnf(" ++ rest) (as_part FormulaPart (LowerWord (codes "cnf")) ∷ plain_token OpenRound ∷ ps)
head_reads rest ps r =
    reads_lower 99 (codes "nf") (40 ∷ rest) (as_part FormulaPart (LowerWord (codes "cnf"))) (plain_token OpenRound ∷ ps) refl refl refl refl
    (reads_sign 40 kinds.OpenRound (plain_token OpenRound) rest ps refl refl refl (λ e. cc) refl r)

role_reads : (rest : List ℕ) (ps : List Printed) → Reads rest ps → Reads (codes ",axiom," ++ rest) (plain_token Comma ∷ as_part RolePart (LowerWord (codes "axiom")) ∷ plain_token Comma ∷ ps)
role_reads rest ps r =
    comma_reads (codes "axiom," ++ rest) (as_part RolePart (LowerWord (codes "axiom")) ∷ plain_token Comma ∷ ps)
    (reads_lower 97 (codes "xiom") (44 ∷ rest) (as_part RolePart (LowerWord (codes "axiom"))) (plain_token Comma ∷ ps) refl refl refl refl (comma_reads rest ps r))

end_reads : (rest : List ℕ) (ps : List Printed) → Reads rest ps → Reads (codes ").\n" ++ rest) (plain_token CloseRound ∷ as_part EndPart Dot ∷ ps)
end_reads rest ps r =
    close_reads (plain_token CloseRound) (46 ∷ 10 ∷ rest) (as_part EndPart Dot ∷ ps) refl
    (reads_sign 46 kinds.Dot (as_part EndPart Dot) (10 ∷ rest) ps refl refl refl (λ e. cc) refl (reads_blank 10 rest ps refl r))

abbrev line_as : LabelValue → List ℕ → List ℕ
line_as l text = codes "cnf(" ++ label_text l ++ codes ",axiom," ++ text ++ codes ").\n"

abbrev frame : LabelValue → List Printed → List Printed
frame l body =
    as_part FormulaPart (LowerWord (codes "cnf")) ∷ plain_token OpenRound ∷ as_part LabelPart (label_terminal (label_as l.form l.text))
    ∷ plain_token Comma ∷ as_part RolePart (LowerWord (codes "axiom")) ∷ plain_token Comma ∷ body

framed_reads : (l : LabelValue) (text rest : List ℕ) (body : List Printed) → IsClauseLabel l → Reads (text ++ (codes ").\n" ++ rest)) body → Reads (line_as l text ++ rest) (frame l body)
framed_reads l text rest body h r =
    let end : List ℕ = codes ").\n" in
    let tail : List Printed = plain_token Comma ∷ as_part RolePart (LowerWord (codes "axiom")) ∷ plain_token Comma ∷ body in
    let whole : List Printed = as_part LabelPart (label_terminal (label_as l.form l.text)) ∷ tail in
    head_reads (((label_text l ++ codes ",axiom,") ++ text ++ end) ++ rest) whole
    (reads_apart ((label_text l ++ codes ",axiom,") ++ text) end rest whole
    (reads_apart (label_text l ++ codes ",axiom,") text (end ++ rest) whole
    (reads_apart (label_text l) (codes ",axiom,") (text ++ (end ++ rest)) whole
    (label_reads l.form l.text (codes "axiom," ++ (text ++ (end ++ rest))) tail h.0 h.1 (role_reads (text ++ (end ++ rest)) body r)))))

-- ---- terms

module _ (signature : SignatureValue) (lawful : LawfulSignature signature) where
  applied_reads : (n : ℕ) (o : Option SymbolValue) (ts : Arguments) (rest : List ℕ) (ps : List Printed) → Entry o (count ts) → Stops is_word_byte (arguments_text signature ts ++ rest)
      → Reads (arguments_text signature ts ++ rest) (arguments_then false (terms_tree signature.functions ts) ps)
      → Reads (symbol_text o ++ (arguments_text signature ts ++ rest)) (term_then n (applied o (terms_tree signature.functions ts)) ps)
  applied_reads n o ts rest ps (a_word text e h) s r =
      subst (λ (x : Option SymbolValue). Reads (symbol_text x ++ (arguments_text signature ts ++ rest)) (term_then n (applied x (terms_tree signature.functions ts)) ps)) (sym e)
      (name_reads text (arguments_text signature ts ++ rest) (as_part (ArgumentPart n) (name_terminal (name_of text))) (arguments_then false (terms_tree signature.functions ts) ps) h s refl r)
  applied_reads n o ts rest ps (an_object text e h z) s r =
      subst (λ (x : Option SymbolValue). Reads (symbol_text x ++ (arguments_text signature ts ++ rest)) (term_then n (applied x (terms_tree signature.functions ts)) ps)) (sym e)
      (reads_distinct text (arguments_text signature ts ++ rest) _ ps h refl
      (subst (λ (x : Arguments). Reads (arguments_text signature ts ++ rest) (arguments_then false (terms_tree signature.functions x) ps)) (nil_of ts z) r))

  arguments_stop : (ts : Arguments) (rest : List ℕ) → Stops is_word_byte rest → Stops is_word_byte (arguments_text signature ts ++ rest)
  arguments_stop Nil rest s = s
  arguments_stop (Cons t ts) rest s = refl

  others_stop : (ts : Arguments) (rest : List ℕ) → Stops is_word_byte (others_text signature ts ++ 41 ∷ rest)
  others_stop Nil rest = refl
  others_stop (Cons t ts) rest = refl

  mutual
    term_reads : (n : ℕ) (t : TermValue) (rest : List ℕ) (ps : List Printed) → AllByRecursion Small (term_variables t) → is_known signature t ≡ true → Stops is_word_byte rest → Reads rest ps
        → Reads (term_text signature t ++ rest) (term_then n (term_tree signature.functions t) ps)
    term_reads n (Var x) rest ps v k s r = reads_variable (decimal x) rest _ ps (decimal_word x v.0) s refl r
    term_reads n (App f ts) rest ps v k s r =
        let b = both_parts (takes (slice_get signature.functions f) (count ts)) (are_known signature ts) k in
        reads_apart (symbol_text (slice_get signature.functions f)) (arguments_text signature ts) rest (term_then n (applied (slice_get signature.functions f) (terms_tree signature.functions ts)) ps)
        (applied_reads n (slice_get signature.functions f) ts rest ps (entry signature.functions f (count ts) lawful.functions b.0) (arguments_stop ts rest s) (arguments_reads false ts rest ps v b.1 s r))

    arguments_reads : (ends : Bool) (ts : Arguments) (rest : List ℕ) (ps : List Printed) → AllByRecursion Small (variables_of ts) → are_known signature ts ≡ true → Stops is_word_byte rest → Reads rest ps
        → Reads (arguments_text signature ts ++ rest) (arguments_then ends (terms_tree signature.functions ts) ps)
    arguments_reads ends Nil rest ps v k s r = r
    arguments_reads ends (Cons t ts) rest ps v k s r =
        let b = both_parts (is_known signature t) (are_known signature ts) k in
        let others : List ℕ = others_text signature ts in
        let tail : List Printed = others_then ends 1 (terms_tree signature.functions ts) ps in
        let whole : List Printed = term_then 1 (term_tree signature.functions t) tail in
        open_reads OpenArguments ((term_text signature t ++ others ++ 41 ∷ []) ++ rest) whole
        (reads_apart (term_text signature t ++ others) (41 ∷ []) rest whole
        (reads_apart (term_text signature t) others (41 ∷ rest) whole
        (term_reads 1 t (others ++ 41 ∷ rest) tail (all_front Small (term_variables t) (variables_of ts) v) b.0 (others_stop ts rest)
        (others_reads ends 1 ts rest ps (all_back Small (term_variables t) (variables_of ts) v) b.1 r))))

    others_reads : (ends : Bool) (n : ℕ) (ts : Arguments) (rest : List ℕ) (ps : List Printed) → AllByRecursion Small (variables_of ts) → are_known signature ts ≡ true → Reads rest ps
        → Reads (others_text signature ts ++ 41 ∷ rest) (others_then ends n (terms_tree signature.functions ts) ps)
    others_reads ends n Nil rest ps v k r = close_reads _ rest ps refl r
    others_reads ends n (Cons t ts) rest ps v k r =
        let b = both_parts (is_known signature t) (are_known signature ts) k in
        let others : List ℕ = others_text signature ts in
        let tail : List Printed = others_then ends (suc n) (terms_tree signature.functions ts) ps in
        comma_reads ((term_text signature t ++ others) ++ 41 ∷ rest) (term_then (suc n) (term_tree signature.functions t) tail)
        (reads_apart (term_text signature t) others (41 ∷ rest) (term_then (suc n) (term_tree signature.functions t) tail)
        (term_reads (suc n) t (others ++ 41 ∷ rest) tail (all_front Small (term_variables t) (variables_of ts) v) b.0 (others_stop ts rest)
        (others_reads ends (suc n) ts rest ps (all_back Small (term_variables t) (variables_of ts) v) b.1 r)))

  -- ---- atoms, literals and clauses

  predicate_reads : (part : Part) (o : Option SymbolValue) (ts : Arguments) (rest : List ℕ) (ps : List Printed) → WordEntry o (count ts) → Stops is_word_byte (arguments_text signature ts ++ rest)
      → Reads (arguments_text signature ts ++ rest) (arguments_then true (terms_tree signature.functions ts) ps)
      → Reads (symbol_text o ++ (arguments_text signature ts ++ rest)) (atom_then part (predicate o (terms_tree signature.functions ts)) ps)
  predicate_reads part o ts rest ps e s r =
      subst (λ (x : Option SymbolValue). Reads (symbol_text x ++ (arguments_text signature ts ++ rest)) (atom_then part (predicate x (terms_tree signature.functions ts)) ps)) (sym e.at)
      (name_reads e.text (arguments_text signature ts ++ rest) (record { terminal = name_terminal (name_of e.text); part = part; ends_atom = has_none (terms_tree signature.functions ts) })
      (arguments_then true (terms_tree signature.functions ts) ps) e.readable s refl r)

  atom_reads : (part : Part) (a : AtomValue) (rest : List ℕ) (ps : List Printed) → AllByRecursion Small (variables_of a.args) → is_known_atom signature a ≡ true → Stops is_word_byte rest → Reads rest ps
      → Reads (atom_text signature a ++ rest) (atom_then part (atom_tree signature a) ps)
  atom_reads part a rest ps v k s r =
      let b = both_parts (takes (slice_get signature.predicates a.pred) (count a.args)) (are_known signature a.args) k in
      reads_apart (symbol_text (slice_get signature.predicates a.pred)) (arguments_text signature a.args) rest (atom_then part (atom_tree signature a) ps)
      (predicate_reads part (slice_get signature.predicates a.pred) a.args rest ps (word_entry signature.predicates a.pred (count a.args) lawful.predicates b.0) (arguments_stop a.args rest s) (arguments_reads true a.args rest ps v b.1 s r))

  signed_reads : (positive : Bool) (a : AtomValue) (rest : List ℕ) (ps : List Printed) → AllByRecursion Small (variables_of a.args) → is_known_atom signature a ≡ true → Stops is_word_byte rest → Reads rest ps
      → Reads (literal_text signature (record { positive = positive; atom = a }) ++ rest) (literal_then (literal_tree signature (record { positive = positive; atom = a })) ps)
  signed_reads true a rest ps v k s r = atom_reads PositivePart a rest ps v k s r
  signed_reads false a rest ps v k s r =
      reads_sign 126 kinds.Tilde (as_part NegativePart Tilde) (atom_text signature a ++ rest) (atom_then AtomPart (atom_tree signature a) ps) refl refl refl (λ e. cc) refl (atom_reads AtomPart a rest ps v k s r)

  barred_stop : (ls : List Literal) (rest : List ℕ) → Stops is_word_byte rest → Stops is_word_byte (barred_text signature ls ++ rest)
  barred_stop [] rest s = s
  barred_stop (l ∷ ls) rest s = refl

  abbrev all_known : List Literal → Bool
  all_known ls = list_all (λ l. is_known_atom signature l.atom) ls

  barred_reads : (ls : List Literal) (rest : List ℕ) (ps : List Printed) → AllByRecursion Small (clause_variables ls) → all_known ls ≡ true → Stops is_word_byte rest → Reads rest ps
      → Reads (barred_text signature ls ++ rest) (barred_then (literal_trees signature ls) ps)
  barred_reads [] rest ps v k s r = r
  barred_reads (l ∷ ls) rest ps v k s r =
      let b = both_parts (is_known_atom signature l.atom) (all_known ls) k in
      let barred : List ℕ = barred_text signature ls in
      let tail : List Printed = barred_then (literal_trees signature ls) ps in
      reads_blank 32 (124 ∷ 32 ∷ ((literal_text signature l ++ barred) ++ rest)) (plain_token Bar ∷ literal_then (literal_tree signature l) tail) refl
      (reads_sign 124 kinds.Bar (plain_token Bar) (32 ∷ ((literal_text signature l ++ barred) ++ rest)) (literal_then (literal_tree signature l) tail) refl refl refl (λ e. cc) refl
      (reads_blank 32 ((literal_text signature l ++ barred) ++ rest) (literal_then (literal_tree signature l) tail) refl
      (reads_apart (literal_text signature l) barred rest (literal_then (literal_tree signature l) tail)
      (signed_reads l.positive l.atom (barred ++ rest) tail (all_front Small (variables_of l.atom.args) (clause_variables ls) v) b.0 (barred_stop ls rest s)
      (barred_reads ls rest ps (all_back Small (variables_of l.atom.args) (clause_variables ls) v) b.1 s r)))))

  formula_reads : (l : LabelValue) (ls : List Literal) (rest : List ℕ) (ps : List Printed) → IsClauseLabel l → AllByRecursion Small (clause_variables ls) → all_known ls ≡ true → Reads rest ps
      → Reads (line_as l (clause_text signature ls) ++ rest) (formula_then (formula_tree signature l ls) ps)
  formula_reads l [] rest ps h v k r =
      framed_reads l (codes "$false") rest ((record { terminal = truth_terminal false; part = PositivePart; ends_atom = true }) ∷ plain_token CloseRound ∷ as_part EndPart Dot ∷ ps) h
      (reads_false (codes ").\n" ++ rest) (record { terminal = truth_terminal false; part = PositivePart; ends_atom = true }) (plain_token CloseRound ∷ as_part EndPart Dot ∷ ps) refl refl (end_reads rest ps r))
  formula_reads l (m ∷ ls) rest ps h v k r =
      let b = both_parts (is_known_atom signature m.atom) (all_known ls) k in
      let close : List Printed = plain_token CloseRound ∷ as_part EndPart Dot ∷ ps in
      let end : List ℕ = codes ").\n" ++ rest in
      let tail : List Printed = barred_then (literal_trees signature ls) close in
      framed_reads l (literal_text signature m ++ barred_text signature ls) rest (literal_then (literal_tree signature m) tail) h
      (reads_apart (literal_text signature m) (barred_text signature ls) end (literal_then (literal_tree signature m) tail)
      (signed_reads m.positive m.atom (barred_text signature ls ++ end) tail (all_front Small (variables_of m.atom.args) (clause_variables ls) v) b.0 (barred_stop ls end refl)
      (barred_reads ls end close (all_back Small (variables_of m.atom.args) (clause_variables ls) v) b.1 refl (end_reads rest ps r))))

  pub record Readable (c : ClauseValue) : Type 0 where
    pub label : IsClauseLabel c.label
    pub small : AllByRecursion Small (clause_variables c.literals)
    pub known : list_all (λ l. is_known_atom signature l.atom) c.literals ≡ true

  pub lines_read : (cs : List ClauseValue) → AllByRecursion Readable cs → Reads (clause_lines signature cs) (printed (clauses_tree signature cs))
  lines_read [] h = reads_nothing
  lines_read (c ∷ cs) h = formula_reads c.label c.literals (clause_lines signature cs) (printed (clauses_tree signature cs)) h.0.label h.0.small h.0.known (lines_read cs h.1)
