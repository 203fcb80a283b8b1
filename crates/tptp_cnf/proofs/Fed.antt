-- The draft behind the tokens of a file.
use Rattle.std.proofs.Common.{◌≡◌, ℕ, zero, suc, ◌+◌, ◌-◌, Bool, true, false, ◌||◌, List, [], ◌∷◌, ◌++◌, length, refl, sym, ap, ◌∙◌, append_assoc, arith}
use Rattle.std.proofs.lemmas.List.{append-nil, length-append}
use Rattle.std.specs.Prelude.{if◌then◌else◌}
use Rattle.std.specs.List.{list_any, flat_map}
use Rattle.me_terms.specs.Values.{LabelValue}
use Rattle.tptp_grammar.specs.Terminals.{Terminal, OpenRound, CloseRound}
use Rattle.tptp_grammar.specs.Terminals as terminal
use Rattle.tptp_grammar.specs.Written as written
use Rattle.tptp_grammar.specs.Written.{Name, Bare, Quoted, WrittenTerm, Distinct, Apply, WrittenTerms, NoTerms, OneMore, WrittenAtom, Truth, Predicate, Sign, Positive, Negative, NegativeInBrackets, WrittenLiteral, WrittenLabel, Numbered, NoNotes, Note, InRound, InSquare, WrittenFormula}
use Rattle.tptp_grammar.specs.Printed.{Printed, plain_token, as_part, name_terminal, label_terminal, times_then, term_then, arguments_then, others_then, signed_then, literal_then, barred_then, notes_then, noted_then, formula_then, printed}
use Rattle.tptp_grammar.specs.declared.part.Part.TheVariants.{End as EndPart}
use Rattle.tptp_cnf.specs.Meaning.{label_of, terms_count, is_positive, is_true_atom, is_true, literals_of}
use Rattle.tptp_cnf.specs.Rows.{ItemValue, item, label_as, sign_role, Draft, begun, labelled, with_row, kept_if, with_truth, with_arity, ended, feeds}
use Rattle.tptp_cnf.specs.declared.item.Role.{Role}
use Rattle.tptp_cnf.specs.declared.item.Role.TheVariants as role

-- ---- the rows of written trees

abbrev mutual
  pub flat_term : WrittenTerm → List ItemValue
  flat_term (written.Variable text) = item role.Variable (terminal.Variable text) 0 ∷ []
  flat_term (Distinct text) = item role.Function (terminal.Distinct text) 0 ∷ []
  flat_term (Apply name ts) = item role.Function (name_terminal name) (terms_count ts) ∷ flat_terms ts

  pub flat_terms : WrittenTerms → List ItemValue
  flat_terms NoTerms = []
  flat_terms (OneMore t ts) = flat_term t ++ flat_terms ts

abbrev pub flat_atom : Bool → WrittenAtom → List ItemValue
flat_atom positive (Truth value) = []
flat_atom positive (Predicate name ts) = item (sign_role positive) (name_terminal name) (terms_count ts) ∷ flat_terms ts

abbrev pub flat_literals : List WrittenLiteral → List ItemValue
flat_literals ls = flat_map (λ l. flat_atom (is_positive l.sign) l.atom) ls

-- ---- terms

at-append : (xs ys : List ItemValue) (x : ItemValue) (n : ℕ) → with_arity (length xs) n (xs ++ x ∷ ys) ≡ xs ++ item x.role x.terminal n ∷ ys
at-append [] ys x n = refl
at-append (z ∷ xs) ys x n = ap (λ (v : List ItemValue). z ∷ v) (at-append xs ys x n)

-- the number of arguments is set at the name before them
closing : (items more others : List ItemValue) (r : Role) (t : Terminal) (n : ℕ) →
    with_arity (length (items ++ item r t 0 ∷ []) - 1) n (((items ++ item r t 0 ∷ []) ++ more) ++ others) ≡ items ++ item r t n ∷ (more ++ others)
closing items more others r t n =
    let place : length (items ++ item r t 0 ∷ []) - 1 ≡ length items = omega (arith, length-append items (item r t 0 ∷ [])) in
    let row : ((items ++ item r t 0 ∷ []) ++ more) ++ others ≡ items ++ item r t 0 ∷ (more ++ others) =
    append_assoc (items ++ item r t 0 ∷ []) more others ∙ append_assoc items (item r t 0 ∷ []) (more ++ others) in
    ap (λ (k : ℕ). with_arity k n (((items ++ item r t 0 ∷ []) ++ more) ++ others)) place
    ∙ ap (with_arity (length items) n) row
    ∙ at-append items (more ++ others) (item r t 0) n

module _ (d : Draft) where
  -- the draft with this row
  abbrev row : List ItemValue → List ℕ → Draft
  row items opened = with_row items opened d

  mutual
    pub term_fed : (t : WrittenTerm) (n : ℕ) (rest : List Printed) (items : List ItemValue) (opened : List ℕ) → feeds (row items opened) (term_then n t rest) ≡ feeds (row (items ++ flat_term t) opened) rest
    term_fed (written.Variable text) n rest items opened = refl
    term_fed (Distinct text) n rest items opened = refl
    term_fed (Apply (Bare text) ts) n rest items opened = arguments_fed ts false role.Function (terminal.LowerWord text) rest items opened
    term_fed (Apply (Quoted text) ts) n rest items opened = arguments_fed ts false role.Function (terminal.SingleQuoted text) rest items opened

    pub arguments_fed : (ts : WrittenTerms) (ends : Bool) (r : Role) (t : Terminal) (rest : List Printed) (items : List ItemValue) (opened : List ℕ)
        → feeds (row (items ++ item r t 0 ∷ []) opened) (arguments_then ends ts rest) ≡ feeds (row (items ++ item r t (terms_count ts) ∷ flat_terms ts) opened) rest
    arguments_fed NoTerms ends r t rest items opened = refl
    arguments_fed (OneMore u us) ends r t rest items opened =
        let first : List ItemValue = items ++ item r t 0 ∷ [] in
        let place : ℕ = length first - 1 in
        let one : ℕ = 1 + terms_count us in
        term_fed u 1 (others_then ends 1 us rest) first (place ∷ opened)
        ∙ others_fed us ends 1 rest (first ++ flat_term u) place opened
        ∙ ap (λ (x : List ItemValue). feeds (row x opened) rest) (closing items (flat_term u) (flat_terms us) r t (1 + terms_count us))
        ∙ ap (λ (k : ℕ). feeds (row (items ++ item r t k ∷ (flat_term u ++ flat_terms us)) opened) rest) (omega arith)

    others_fed : (ts : WrittenTerms) (ends : Bool) (n : ℕ) (rest : List Printed) (items : List ItemValue) (place : ℕ) (opened : List ℕ)
        → feeds (row items (place ∷ opened)) (others_then ends n ts rest) ≡ feeds (row (with_arity place (n + terms_count ts) (items ++ flat_terms ts)) opened) rest
    others_fed NoTerms ends n rest items place opened =
        ap (λ (x : List ItemValue). feeds (row (with_arity place n x) opened) rest) (sym (append-nil items))
        ∙ ap (λ (k : ℕ). feeds (row (with_arity place k (items ++ [])) opened) rest) (omega arith)
    others_fed (OneMore u us) ends n rest items place opened =
        term_fed u (suc n) (others_then ends (suc n) us rest) items (place ∷ opened)
        ∙ others_fed us ends (suc n) rest (items ++ flat_term u) place opened
        ∙ ap (λ (x : List ItemValue). feeds (row (with_arity place (suc n + terms_count us) x) opened) rest) (append_assoc items (flat_term u) (flat_terms us))
        ∙ ap (λ (k : ℕ). feeds (row (with_arity place k (items ++ (flat_term u ++ flat_terms us))) opened) rest) (omega arith)

-- ---- literals

abbrev with_signed : Bool → WrittenAtom → Draft → Draft
with_signed positive (Truth value) d = with_truth (is_true_atom positive (Truth value)) d
with_signed positive (Predicate name ts) d = with_row (d.items ++ flat_atom positive (Predicate name ts)) d.open_items d

signed_fed : (s : Sign) (a : WrittenAtom) (rest : List Printed) (d : Draft) → feeds d (signed_then s a rest) ≡ feeds (with_signed (is_positive s) a d) rest
signed_fed Positive (Truth true) rest d = refl
signed_fed Positive (Truth false) rest d = refl
signed_fed Negative (Truth true) rest d = refl
signed_fed Negative (Truth false) rest d = refl
signed_fed NegativeInBrackets (Truth true) rest d = refl
signed_fed NegativeInBrackets (Truth false) rest d = refl
signed_fed Positive (Predicate (Bare text) ts) rest d = arguments_fed d ts true role.Positive (terminal.LowerWord text) rest d.items d.open_items
signed_fed Positive (Predicate (Quoted text) ts) rest d = arguments_fed d ts true role.Positive (terminal.SingleQuoted text) rest d.items d.open_items
signed_fed Negative (Predicate (Bare text) ts) rest d = arguments_fed d ts true role.Negative (terminal.LowerWord text) rest d.items d.open_items
signed_fed Negative (Predicate (Quoted text) ts) rest d = arguments_fed d ts true role.Negative (terminal.SingleQuoted text) rest d.items d.open_items
signed_fed NegativeInBrackets (Predicate (Bare text) ts) rest d = arguments_fed d ts true role.Negative (terminal.LowerWord text) (plain_token CloseRound ∷ rest) d.items d.open_items
signed_fed NegativeInBrackets (Predicate (Quoted text) ts) rest d = arguments_fed d ts true role.Negative (terminal.SingleQuoted text) (plain_token CloseRound ∷ rest) d.items d.open_items

-- the draft behind more literals
abbrev with_literals : List WrittenLiteral → Draft → Draft
with_literals [] d = d
with_literals (l ∷ ls) d = with_literals ls (with_signed (is_positive l.sign) l.atom d)

barred_fed : (ls : List WrittenLiteral) (rest : List Printed) (d : Draft) → feeds d (barred_then ls rest) ≡ feeds (with_literals ls d) rest
barred_fed [] rest d = refl
barred_fed (l ∷ ls) rest d = signed_fed l.sign l.atom (barred_then ls rest) d ∙ barred_fed ls rest (with_signed (is_positive l.sign) l.atom d)

-- whether a formula is kept, and the row so far, with more literals
abbrev still : Bool → Bool → Bool
still left_out kept = if left_out then false else kept

abbrev behind : Bool → List ItemValue → Draft → Draft
behind kept items d = kept_if kept (with_row items d.open_items d)

signed_is : (positive : Bool) (a : WrittenAtom) (d : Draft) → with_signed positive a d ≡ behind (still (is_true_atom positive a) d.is_kept) (d.items ++ flat_atom positive a) d
signed_is positive (Predicate name ts) d = refl
signed_is positive (Truth value) d = truth (is_true_atom positive (Truth value)) d
  where
    truth : (b : Bool) (e : Draft) → with_truth b e ≡ behind (still b e.is_kept) (e.items ++ []) e
    truth true e = ap (λ (x : List ItemValue). behind false x e) (sym (append-nil e.items))
    truth false e = ap (λ (x : List ItemValue). behind e.is_kept x e) (sym (append-nil e.items))

still_both : (a b kept : Bool) → still b (still a kept) ≡ still (a || b) kept
still_both true true kept = refl
still_both true false kept = refl
still_both false b kept = refl

literals_are : (ls : List WrittenLiteral) (d : Draft) → with_literals ls d ≡ behind (still (list_any is_true ls) d.is_kept) (d.items ++ flat_literals ls) d
literals_are [] d = ap (λ (x : List ItemValue). behind d.is_kept x d) (sym (append-nil d.items))
literals_are (l ∷ ls) d =
    let one : List ItemValue = flat_atom (is_positive l.sign) l.atom in
    ap (with_literals ls) (signed_is (is_positive l.sign) l.atom d)
    ∙ literals_are ls (behind (still (is_true l) d.is_kept) (d.items ++ one) d)
    ∙ ap (λ (x : List ItemValue). behind (still (list_any is_true ls) (still (is_true l) d.is_kept)) x d) (append_assoc d.items one (flat_literals ls))
    ∙ ap (λ (b : Bool). behind b (d.items ++ flat_literals (l ∷ ls)) d) (still_both (is_true l) (list_any is_true ls) d.is_kept)

-- ---- formulas

times_fed : (n : ℕ) (t : Terminal) (rest : List Printed) (d : Draft) → feeds d (times_then n (plain_token t) rest) ≡ feeds d rest
times_fed zero t rest d = refl
times_fed (suc n) t rest d = times_fed n t rest d

notes_fed : (ns : written.Notes) (rest : List Printed) (d : Draft) → feeds d (notes_then ns rest) ≡ feeds d rest
notes_fed NoNotes rest d = refl
notes_fed (Note t known ns) rest d = notes_fed ns rest d
notes_fed (InRound inner ns) rest d = notes_fed inner (plain_token CloseRound ∷ notes_then ns rest) d ∙ notes_fed ns rest d
notes_fed (InSquare inner ns) rest d = notes_fed inner (plain_token terminal.CloseSquare ∷ notes_then ns rest) d ∙ notes_fed ns rest d

noted_fed : (ns : written.Notes) (rest : List Printed) (d : Draft) → feeds d (noted_then ns rest) ≡ feeds d rest
noted_fed NoNotes rest d = refl
noted_fed (Note t known ns) rest d = notes_fed (Note t known ns) rest d
noted_fed (InRound inner ns) rest d = notes_fed (InRound inner ns) rest d
noted_fed (InSquare inner ns) rest d = notes_fed (InSquare inner ns) rest d

label_is : (label : WrittenLabel) → label_as (label_terminal label) ≡ label_of label
label_is (written.Named (Bare text)) = refl
label_is (written.Named (Quoted text)) = refl
label_is (Numbered digits) = refl

-- the draft behind the literals of a formula
abbrev pub read_formula : WrittenFormula → Draft → Draft
read_formula f d = behind (still (list_any is_true (literals_of f)) true) (flat_literals (literals_of f)) (labelled (label_of f.label) (begun d))

abbrev pub after_formula : WrittenFormula → Draft → Draft
after_formula f d = ended (read_formula f d)

abbrev line_then : List Printed → List Printed
line_then rest = plain_token CloseRound ∷ as_part EndPart terminal.Dot ∷ rest

abbrev tail_then : WrittenFormula → List Printed → List Printed
tail_then f rest = times_then f.brackets (plain_token CloseRound) (noted_then f.notes (line_then rest))

tail_fed : (f : WrittenFormula) (rest : List Printed) (d : Draft) → feeds d (tail_then f rest) ≡ feeds (ended d) rest
tail_fed f rest d = times_fed f.brackets CloseRound (noted_then f.notes (line_then rest)) d ∙ noted_fed f.notes (line_then rest) d

formula_fed : (f : WrittenFormula) (rest : List Printed) (d : Draft) → feeds d (formula_then f rest) ≡ feeds (after_formula f d) rest
formula_fed f rest d =
    let tail : List Printed = tail_then f rest in
    let start : Draft = labelled (label_of f.label) (begun d) in
    let one : Draft = with_signed (is_positive f.first.sign) f.first.atom start in
    ap (λ (label : LabelValue). feeds (labelled label (begun d)) (times_then f.brackets (plain_token OpenRound) (literal_then f.first (barred_then f.others tail)))) (label_is f.label)
    ∙ times_fed f.brackets OpenRound (literal_then f.first (barred_then f.others tail)) start
    ∙ signed_fed f.first.sign f.first.atom (barred_then f.others tail) start
    ∙ barred_fed f.others tail one
    ∙ tail_fed f rest (with_literals f.others one)
    ∙ ap (λ (e : Draft). feeds (ended e) rest) (literals_are (literals_of f) start)

abbrev pub after_file : List WrittenFormula → Draft → Draft
after_file [] d = d
after_file (f ∷ fs) d = after_file fs (after_formula f d)

pub file_fed : (fs : List WrittenFormula) (d : Draft) → feeds d (printed fs) ≡ after_file fs d
file_fed [] d = refl
file_fed (f ∷ fs) d = formula_fed f (printed fs) d ∙ file_fed fs (after_formula f d)
