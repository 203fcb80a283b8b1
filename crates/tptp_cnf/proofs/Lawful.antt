-- The names of a file can be read, as labels and symbols have to be.
use Rattle.std.proofs.Common.{ℕ, zero, suc, Bool, true, false, List, [], ◌∷◌, ◌++◌, refl}
use Rattle.std.specs.Prelude.{if◌then◌else◌}
use Rattle.std.specs.List.{AllByRecursion}
use Rattle.me_terms.specs.Labels.{IsReadableAs, IsClauseLabel, IsFunctionSymbol, IsPredicateSymbol}
use Rattle.me_terms.specs.Values.{SymbolValue}
use Rattle.me_terms.specs.declared.symbol.Form.TheVariants.{Word, Distinct as DistinctForm, Number}
use Rattle.tptp_tokens.specs.Remainders.{Remainder}
use Rattle.tptp_tokens.specs.Tokens.{PlacedToken, IsFirstAs, IsCutFrom}
use Rattle.tptp_tokens.specs.declared.token.TokenKind.{TokenKind}
use Rattle.tptp_tokens.specs.declared.token.TokenKind.TheVariants as kind
use Rattle.tptp_tokens.proofs.Texts.{lower_word_is_word}
use Rattle.tptp_grammar.specs.Terminals.{Terminal, LowerWord, SingleQuoted, Digits, OpenRound, CloseRound, terminal_as, terminals}
use Rattle.tptp_grammar.specs.Terminals as terminal
use Rattle.tptp_grammar.specs.Written as written
use Rattle.tptp_grammar.specs.Written.{Bare, Quoted, WrittenTerm, Distinct, Apply, WrittenTerms, NoTerms, OneMore, WrittenAtom, Truth, Predicate, Sign, Positive, Negative, NegativeInBrackets, WrittenLiteral, WrittenLabel, Numbered, NoNotes, Note, InRound, InSquare, WrittenFormula}
use Rattle.tptp_grammar.specs.Printed.{Printed, plain_token, as_part, printed_terminals, label_terminal, times_then, term_then, arguments_then, others_then, atom_then, signed_then, literal_then, barred_then, notes_then, noted_then, formula_then, printed}
use Rattle.tptp_grammar.specs.declared.part.Part.{Part}
use Rattle.tptp_grammar.specs.declared.part.Part.TheVariants.{End as EndPart}
use Rattle.tptp_cnf.specs.Meaning.{label_of, literals_of, is_left_out, term_functions, terms_functions, atom_predicates, atom_functions, literals_predicates, literals_functions, file_predicates, file_functions}

-- the text of a name can be read
abbrev pub Lawful : Terminal → Type 0
Lawful (LowerWord text) = IsReadableAs Word text
Lawful (SingleQuoted text) = IsReadableAs Word text
Lawful (terminal.Distinct text) = IsReadableAs DistinctForm text
Lawful (Digits text) = IsReadableAs Number text
Lawful t = Unit {0}

lawful_as : (k : TokenKind) (text bytes rest : List ℕ) → IsFirstAs k text bytes rest → Lawful (terminal_as k text)
lawful_as kind.LowerWord text bytes rest h = lower_word_is_word text h.0.lawful
lawful_as kind.SingleQuoted text bytes rest h = h.0.lawful
lawful_as kind.Distinct text bytes rest h = h.0.lawful
lawful_as kind.Digits text bytes rest h = h.0.lawful
lawful_as k text bytes rest h = tt

abbrev pub AllLawful : List Terminal → Type 0
AllLawful ts = AllByRecursion Lawful ts

pub tokens_lawful : (tokens : List PlacedToken) (now : Remainder) → IsCutFrom now tokens → AllLawful (terminals tokens)
tokens_lawful [] now h = tt
tokens_lawful (t ∷ tokens) now h = (lawful_as t.token.kind t.token.text h.1.middle h.0.bytes h.1.first, tokens_lawful tokens h.0 h.2)

-- ---- terms

abbrev Left : List Printed → Type 0
Left rest = AllLawful (printed_terminals rest)

abbrev Functions : List SymbolValue → Type 0
Functions ss = AllByRecursion IsFunctionSymbol ss

abbrev Predicates : List SymbolValue → Type 0
Predicates ss = AllByRecursion IsPredicateSymbol ss

pub both : (P : SymbolValue → Type 0) (xs ys : List SymbolValue) → AllByRecursion P xs → AllByRecursion P ys → AllByRecursion P (xs ++ ys)
both P [] ys h k = k
both P (x ∷ xs) ys h k = (h.0, both P xs ys h.1 k)

mutual
  term_lawful : (t : WrittenTerm) (n : ℕ) (rest : List Printed) → Left (term_then n t rest) → Functions (term_functions t) × Left rest
  term_lawful (written.Variable text) n rest h = (tt, h.1)
  term_lawful (Distinct text) n rest h = (((h.0, refl), tt), h.1)
  term_lawful (Apply (Bare text) ts) n rest h = let k = arguments_lawful ts false rest h.1 in (((h.0, tt), k.0), k.1)
  term_lawful (Apply (Quoted text) ts) n rest h = let k = arguments_lawful ts false rest h.1 in (((h.0, tt), k.0), k.1)

  arguments_lawful : (ts : WrittenTerms) (ends : Bool) (rest : List Printed) → Left (arguments_then ends ts rest) → Functions (terms_functions ts) × Left rest
  arguments_lawful NoTerms ends rest h = (tt, h)
  arguments_lawful (OneMore t ts) ends rest h =
      let k = term_lawful t 1 (others_then ends 1 ts rest) h.1 in
      let m = others_lawful ts ends 1 rest k.1 in
      (both IsFunctionSymbol (term_functions t) (terms_functions ts) k.0 m.0, m.1)

  others_lawful : (ts : WrittenTerms) (ends : Bool) (n : ℕ) (rest : List Printed) → Left (others_then ends n ts rest) → Functions (terms_functions ts) × Left rest
  others_lawful NoTerms ends n rest h = (tt, h.1)
  others_lawful (OneMore t ts) ends n rest h =
      let k = term_lawful t (suc n) (others_then ends (suc n) ts rest) h.1 in
      let m = others_lawful ts ends (suc n) rest k.1 in
      (both IsFunctionSymbol (term_functions t) (terms_functions ts) k.0 m.0, m.1)

-- ---- literals

atom_lawful : (part : Part) (a : WrittenAtom) (rest : List Printed) → Left (atom_then part a rest) → Functions (atom_functions a) × Predicates (atom_predicates a) × Left rest
atom_lawful part (Truth value) rest h = (tt, tt, h.1)
atom_lawful part (Predicate (Bare text) ts) rest h = let k = arguments_lawful ts true rest h.1 in (k.0, ((h.0, refl), tt), k.1)
atom_lawful part (Predicate (Quoted text) ts) rest h = let k = arguments_lawful ts true rest h.1 in (k.0, ((h.0, refl), tt), k.1)

signed_lawful : (s : Sign) (a : WrittenAtom) (rest : List Printed) → Left (signed_then s a rest) → Functions (atom_functions a) × Predicates (atom_predicates a) × Left rest
signed_lawful Positive a rest h = atom_lawful _ a rest h
signed_lawful Negative a rest h = atom_lawful _ a rest h.1
signed_lawful NegativeInBrackets a rest h = let k = atom_lawful _ a (plain_token CloseRound ∷ rest) h.1.1 in (k.0, k.1, k.2.1)

barred_lawful : (ls : List WrittenLiteral) (rest : List Printed) → Left (barred_then ls rest) → Functions (literals_functions ls) × Predicates (literals_predicates ls) × Left rest
barred_lawful [] rest h = (tt, tt, h)
barred_lawful (l ∷ ls) rest h =
    let k = signed_lawful l.sign l.atom (barred_then ls rest) h.1 in
    let m = barred_lawful ls rest k.2 in
    (both IsFunctionSymbol (atom_functions l.atom) (literals_functions ls) k.0 m.0, both IsPredicateSymbol (atom_predicates l.atom) (literals_predicates ls) k.1 m.1, m.2)

-- ---- formulas

times_lawful : (n : ℕ) (t : Printed) (rest : List Printed) → Left (times_then n t rest) → Left rest
times_lawful zero t rest h = h
times_lawful (suc n) t rest h = times_lawful n t rest h.1

notes_lawful : (ns : written.Notes) (rest : List Printed) → Left (notes_then ns rest) → Left rest
notes_lawful NoNotes rest h = h
notes_lawful (Note t known ns) rest h = notes_lawful ns rest h.1
notes_lawful (InRound inner ns) rest h = notes_lawful ns rest (notes_lawful inner (plain_token CloseRound ∷ notes_then ns rest) h.1).1
notes_lawful (InSquare inner ns) rest h = notes_lawful ns rest (notes_lawful inner (plain_token terminal.CloseSquare ∷ notes_then ns rest) h.1).1

noted_lawful : (ns : written.Notes) (rest : List Printed) → Left (noted_then ns rest) → Left rest
noted_lawful NoNotes rest h = h
noted_lawful (Note t known ns) rest h = notes_lawful (Note t known ns) rest h.1
noted_lawful (InRound inner ns) rest h = notes_lawful (InRound inner ns) rest h.1
noted_lawful (InSquare inner ns) rest h = notes_lawful (InSquare inner ns) rest h.1

abbrev line_then : List Printed → List Printed
line_then rest = plain_token CloseRound ∷ as_part EndPart terminal.Dot ∷ rest

abbrev tail_then : WrittenFormula → List Printed → List Printed
tail_then f rest = times_then f.brackets (plain_token CloseRound) (noted_then f.notes (line_then rest))

tail_lawful : (f : WrittenFormula) (rest : List Printed) → Left (tail_then f rest) → Left rest
tail_lawful f rest h = (noted_lawful f.notes (line_then rest) (times_lawful f.brackets (plain_token CloseRound) (noted_then f.notes (line_then rest)) h)).1.1

label_lawful : (label : WrittenLabel) → Lawful (label_terminal label) → IsClauseLabel (label_of label)
label_lawful (written.Named (Bare text)) h = (h, λ e. cc)
label_lawful (written.Named (Quoted text)) h = (h, λ e. cc)
label_lawful (Numbered digits) h = (h, λ e. cc)

pub record FormulaLawful (f : WrittenFormula) : Type 0 where
  pub label : IsClauseLabel (label_of f.label)
  pub functions : Functions (literals_functions (literals_of f))
  pub predicates : Predicates (literals_predicates (literals_of f))

formula_lawful : (f : WrittenFormula) (rest : List Printed) → Left (formula_then f rest) → FormulaLawful f × Left rest
formula_lawful f rest h =
    let tail : List Printed = tail_then f rest in
    let label = h.1.1.0 in
    let first = signed_lawful f.first.sign f.first.atom (barred_then f.others tail) (times_lawful f.brackets (plain_token OpenRound) (literal_then f.first (barred_then f.others tail)) h.1.1.1.1.1.1) in
    let others = barred_lawful f.others tail first.2 in (
      record {
        label = label_lawful f.label label;
        functions = both IsFunctionSymbol (atom_functions f.first.atom) (literals_functions f.others) first.0 others.0;
        predicates = both IsPredicateSymbol (atom_predicates f.first.atom) (literals_predicates f.others) first.1 others.1;
      },
      tail_lawful f rest others.2,
    )

pub file_lawful : (fs : List WrittenFormula) → Left (printed fs) → AllByRecursion FormulaLawful fs
file_lawful [] h = tt
file_lawful (f ∷ fs) h = let k = formula_lawful f (printed fs) h in (k.0, file_lawful fs k.1)

functions_by : (b : Bool) (f : WrittenFormula) (fs : List WrittenFormula) → FormulaLawful f → Functions (file_functions fs) → Functions (if b then file_functions fs else literals_functions (literals_of f) ++ file_functions fs)
functions_by true f fs h k = k
functions_by false f fs h k = both IsFunctionSymbol (literals_functions (literals_of f)) (file_functions fs) h.functions k

pub functions_lawful : (fs : List WrittenFormula) → AllByRecursion FormulaLawful fs → Functions (file_functions fs)
functions_lawful [] h = tt
functions_lawful (f ∷ fs) h = functions_by (is_left_out f) f fs h.0 (functions_lawful fs h.1)

predicates_by : (b : Bool) (f : WrittenFormula) (fs : List WrittenFormula) → FormulaLawful f → Predicates (file_predicates fs) → Predicates (if b then file_predicates fs else literals_predicates (literals_of f) ++ file_predicates fs)
predicates_by true f fs h k = k
predicates_by false f fs h k = both IsPredicateSymbol (literals_predicates (literals_of f)) (file_predicates fs) h.predicates k

pub predicates_lawful : (fs : List WrittenFormula) → AllByRecursion FormulaLawful fs → Predicates (file_predicates fs)
predicates_lawful [] h = tt
predicates_lawful (f ∷ fs) h = predicates_by (is_left_out f) f fs h.0 (predicates_lawful fs h.1)
