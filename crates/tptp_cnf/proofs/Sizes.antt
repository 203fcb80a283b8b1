-- A problem is no greater than the tokens of its file, and those are no more than its bytes.
use Rattle.std.proofs.Common.{◌≡◌, ℕ, zero, suc, ◌+◌, ◌≤◌, Bool, true, false, List, [], ◌∷◌, ◌++◌, length, refl, sym, ap, subst, ◌∙◌, arith}
use Rattle.std.proofs.lemmas.List.{length-append}
use Rattle.std.proofs.lemmas.List.Sums.{sum_by-append}
use Rattle.std.specs.Prelude.{if◌then◌else◌}
use Rattle.std.specs.List.{list_any}
use Rattle.me_terms.specs.LabelEquality.{same_symbol}
use Rattle.me_terms.specs.Signatures.{with_symbol}
use Rattle.me_terms.specs.Variables.{weight, weights}
use Rattle.me_terms.specs.Measures.{literal_weight, literals_weight}
use Rattle.me_terms.specs.Values.{SymbolValue, SignatureValue, ClauseValue, ProblemValue}
use Rattle.me_terms.specs.declared.atom.Literal.{Literal}
use Rattle.tptp_tokens.specs.Gaps.{GapPiece, Blank, Line, LastLine, Block, IsPiece, Skips}
use Rattle.tptp_tokens.specs.Remainders.{Remainder}
use Rattle.tptp_tokens.specs.Tokens.{PlacedToken, IsCutFrom}
use Rattle.tptp_tokens.proofs.OneCut.{first_takes}
use Rattle.tptp_grammar.specs.Terminals.{Terminal, OpenRound, CloseRound, terminals}
use Rattle.tptp_grammar.specs.Terminals as terminal
use Rattle.tptp_grammar.specs.Written as written
use Rattle.tptp_grammar.specs.Written.{WrittenTerm, Distinct, Apply, WrittenTerms, NoTerms, OneMore, WrittenAtom, Truth, Predicate, Sign, Positive, Negative, NegativeInBrackets, WrittenLiteral, NoNotes, Note, InRound, InSquare, WrittenFormula}
use Rattle.tptp_grammar.specs.Printed.{Printed, plain_token, as_part, printed_terminals, times_then, term_then, arguments_then, others_then, atom_then, signed_then, literal_then, barred_then, notes_then, noted_then, formula_then, printed}
use Rattle.tptp_grammar.specs.declared.part.Part.{Part}
use Rattle.tptp_grammar.specs.declared.part.Part.TheVariants.{Positive as PositivePart, Atom as AtomPart, End as EndPart}
use Rattle.tptp_cnf.specs.Meaning.{is_positive, literals_of, is_left_out, term_functions, terms_functions, atom_predicates, atom_functions, literals_predicates, literals_functions, file_predicates, file_functions, with_symbols, term_of, terms_of, signed_literal, clause_literals, variables_in_formula, clause_of, clauses_of, is_constant, c0_symbol, problem_of}
use Rattle.tptp_cnf.specs.Files.{IsFile, clauses_weight}
use Rattle.tptp_cnf.proofs.Reached.{all_of}

-- ---- tokens and bytes

piece_takes : (piece : GapPiece) (bytes rest : List ℕ) → IsPiece piece bytes rest → length rest ≤ length bytes
piece_takes (Blank byte) bytes rest h = omega (arith, ap length h.0)
piece_takes (Line text) bytes rest h = omega (arith, ap length h.0, length-append text (10 ∷ rest))
piece_takes (LastLine text) bytes rest h = omega (arith, ap length h.2)
piece_takes (Block text) bytes rest h = omega (arith, ap length h.1, ap length h.2.here, length-append text (42 ∷ 47 ∷ rest))

pub skips_take : (pieces : List GapPiece) (bytes rest : List ℕ) → Skips pieces bytes rest → length rest ≤ length bytes
skips_take [] bytes rest h = omega (arith, ap length h.0)
skips_take (p ∷ pieces) bytes rest h = omega (arith, piece_takes p bytes h.0 h.1, skips_take pieces h.0 rest h.2)

tokens_fit : (tokens : List PlacedToken) (now : Remainder) → IsCutFrom now tokens → length tokens ≤ length now.bytes
tokens_fit [] now h = omega arith
tokens_fit (t ∷ tokens) now h =
    let n = h.1 in
    omega (arith, tokens_fit tokens h.0 h.2, first_takes t.token n.middle h.0.bytes n.first, skips_take n.gap.0 now.bytes n.middle n.gap.1)

pub terminals_len : (tokens : List PlacedToken) → length (terminals tokens) ≡ length tokens
terminals_len [] = refl
terminals_len (t ∷ tokens) = omega (arith, terminals_len tokens)

printed_len : (ps : List Printed) → length (printed_terminals ps) ≡ length ps
printed_len [] = refl
printed_len (p ∷ ps) = omega (arith, printed_len ps)

-- ---- terms

module _ (functions : List SymbolValue) (variables : List (List ℕ)) where
  mutual
    term_long : (t : WrittenTerm) (n : ℕ) (rest : List Printed) → weight (term_of functions variables t) + length rest ≤ length (term_then n t rest)
    term_long (written.Variable text) n rest = omega arith
    term_long (Distinct text) n rest = omega arith
    term_long (Apply name ts) n rest = omega (arith, arguments_long ts false rest)

    arguments_long : (ts : WrittenTerms) (ends : Bool) (rest : List Printed) → weights (terms_of functions variables ts) + length rest ≤ length (arguments_then ends ts rest)
    arguments_long NoTerms ends rest = omega arith
    arguments_long (OneMore t ts) ends rest = omega (arith, term_long t 1 (others_then ends 1 ts rest), others_long ts ends 1 rest)

    others_long : (ts : WrittenTerms) (ends : Bool) (n : ℕ) (rest : List Printed) → weights (terms_of functions variables ts) + length rest ≤ length (others_then ends n ts rest)
    others_long NoTerms ends n rest = omega arith
    others_long (OneMore t ts) ends n rest = omega (arith, term_long t (suc n) (others_then ends (suc n) ts rest), others_long ts ends (suc n) rest)

  mutual
    functions_few : (t : WrittenTerm) → length (term_functions t) ≤ weight (term_of functions variables t)
    functions_few (written.Variable text) = omega arith
    functions_few (Distinct text) = omega arith
    functions_few (Apply name ts) = omega (arith, all_functions_few ts)

    all_functions_few : (ts : WrittenTerms) → length (terms_functions ts) ≤ weights (terms_of functions variables ts)
    all_functions_few NoTerms = omega arith
    all_functions_few (OneMore t ts) = omega (arith, length-append (term_functions t) (terms_functions ts), functions_few t, all_functions_few ts)

-- ---- literals and formulas

module _ (signature : SignatureValue) (variables : List (List ℕ)) where
  atom_long : (positive : Bool) (part : Part) (a : WrittenAtom) (rest : List Printed) → literals_weight (signed_literal signature variables positive a) + length rest ≤ length (atom_then part a rest)
  atom_long positive part (Truth value) rest = omega arith
  atom_long positive part (Predicate name ts) rest = omega (arith, arguments_long signature.functions variables ts true rest)

  signed_long : (s : Sign) (a : WrittenAtom) (rest : List Printed) → literals_weight (signed_literal signature variables (is_positive s) a) + length rest ≤ length (signed_then s a rest)
  signed_long Positive a rest = atom_long true PositivePart a rest
  signed_long Negative a rest = omega (arith, atom_long false AtomPart a rest)
  signed_long NegativeInBrackets a rest = omega (arith, atom_long false AtomPart a (plain_token CloseRound ∷ rest))

  abbrev literals : WrittenLiteral → List Literal
  literals l = signed_literal signature variables (is_positive l.sign) l.atom

  weight_more : (l : WrittenLiteral) (ls : List WrittenLiteral) → literals_weight (clause_literals signature variables (l ∷ ls)) ≡ literals_weight (literals l) + literals_weight (clause_literals signature variables ls)
  weight_more l ls = sum_by-append literal_weight (literals l) (clause_literals signature variables ls)

  barred_long : (ls : List WrittenLiteral) (rest : List Printed) → literals_weight (clause_literals signature variables ls) + length rest ≤ length (barred_then ls rest)
  barred_long [] rest = omega arith
  barred_long (l ∷ ls) rest = omega (arith, weight_more l ls, signed_long l.sign l.atom (barred_then ls rest), barred_long ls rest)

  atom_few : (positive : Bool) (a : WrittenAtom) → length (atom_functions a) + length (atom_predicates a) ≤ literals_weight (signed_literal signature variables positive a)
  atom_few positive (Truth value) = omega arith
  atom_few positive (Predicate name ts) = omega (arith, all_functions_few signature.functions variables ts)

  literals_few : (ls : List WrittenLiteral) → length (literals_functions ls) + length (literals_predicates ls) ≤ literals_weight (clause_literals signature variables ls)
  literals_few [] = omega arith
  literals_few (l ∷ ls) =
      omega (arith, weight_more l ls, atom_few (is_positive l.sign) l.atom, literals_few ls, length-append (atom_functions l.atom) (literals_functions ls), length-append (atom_predicates l.atom) (literals_predicates ls))

times_long : (n : ℕ) (t : Printed) (rest : List Printed) → length rest ≤ length (times_then n t rest)
times_long zero t rest = omega arith
times_long (suc n) t rest = omega (arith, times_long n t rest)

notes_long : (ns : written.Notes) (rest : List Printed) → length rest ≤ length (notes_then ns rest)
notes_long NoNotes rest = omega arith
notes_long (Note t known ns) rest = omega (arith, notes_long ns rest)
notes_long (InRound inner ns) rest = omega (arith, notes_long inner (plain_token CloseRound ∷ notes_then ns rest), notes_long ns rest)
notes_long (InSquare inner ns) rest = omega (arith, notes_long inner (plain_token terminal.CloseSquare ∷ notes_then ns rest), notes_long ns rest)

noted_long : (ns : written.Notes) (rest : List Printed) → length rest ≤ length (noted_then ns rest)
noted_long NoNotes rest = omega arith
noted_long (Note t known ns) rest = omega (arith, notes_long (Note t known ns) rest)
noted_long (InRound inner ns) rest = omega (arith, notes_long (InRound inner ns) rest)
noted_long (InSquare inner ns) rest = omega (arith, notes_long (InSquare inner ns) rest)

abbrev line_then : List Printed → List Printed
line_then rest = plain_token CloseRound ∷ as_part EndPart terminal.Dot ∷ rest

abbrev tail_then : WrittenFormula → List Printed → List Printed
tail_then f rest = times_then f.brackets (plain_token CloseRound) (noted_then f.notes (line_then rest))

formula_long : (signature : SignatureValue) (f : WrittenFormula) (rest : List Printed) → literals_weight (clause_literals signature (variables_in_formula f) (literals_of f)) + 1 + length rest ≤ length (formula_then f rest)
formula_long signature f rest =
    let tail : List Printed = tail_then f rest in
    let inner : List Printed = literal_then f.first (barred_then f.others tail) in
    omega (
      arith,
      weight_more signature (variables_in_formula f) f.first f.others,
      signed_long signature (variables_in_formula f) f.first.sign f.first.atom (barred_then f.others tail),
      barred_long signature (variables_in_formula f) f.others tail,
      times_long f.brackets (plain_token OpenRound) inner,
      times_long f.brackets (plain_token CloseRound) (noted_then f.notes (line_then rest)),
      noted_long f.notes (line_then rest),
    )

-- ---- files

sum_more : (c : ClauseValue) (cs : List ClauseValue) → clauses_weight (c ∷ cs) ≡ literals_weight c.literals + clauses_weight cs
sum_more c cs = omega (arith, sum_by-append (λ d. literals_weight d.literals) (c ∷ []) cs)

-- what the clauses of more formulas weigh with their number, and how many symbols they have
pub record Sized (signature : SignatureValue) (n : ℕ) (fs : List WrittenFormula) : Type 0 where
  pub clauses : clauses_weight (clauses_of signature n fs) + length (clauses_of signature n fs) ≤ length (printed fs)
  pub symbols : length (file_functions fs) + length (file_predicates fs) ≤ clauses_weight (clauses_of signature n fs)

sized_by : (b : Bool) (signature : SignatureValue) (n : ℕ) (f : WrittenFormula) (fs : List WrittenFormula) → Sized signature (n + 1) fs
    → (clauses_weight (if b then clauses_of signature (n + 1) fs else clause_of signature n f ∷ clauses_of signature (n + 1) fs) + length (if b then clauses_of signature (n + 1) fs else clause_of signature n f ∷ clauses_of signature (n + 1) fs) ≤ length (printed (f ∷ fs)))
    × (length (if b then file_functions fs else literals_functions (literals_of f) ++ file_functions fs) + length (if b then file_predicates fs else literals_predicates (literals_of f) ++ file_predicates fs)
    ≤ clauses_weight (if b then clauses_of signature (n + 1) fs else clause_of signature n f ∷ clauses_of signature (n + 1) fs))
sized_by true signature n f fs h = (omega (arith, h.clauses, formula_long signature f (printed fs)), h.symbols)
sized_by false signature n f fs h = (
  omega (arith, h.clauses, sum_more (clause_of signature n f) (clauses_of signature (n + 1) fs), formula_long signature f (printed fs)),
  omega (
    arith,
    h.symbols,
    sum_more (clause_of signature n f) (clauses_of signature (n + 1) fs),
    literals_few signature (variables_in_formula f) (literals_of f),
    length-append (literals_functions (literals_of f)) (file_functions fs),
    length-append (literals_predicates (literals_of f)) (file_predicates fs),
  ),
)

pub sized : (signature : SignatureValue) (n : ℕ) (fs : List WrittenFormula) → Sized signature n fs
sized signature n [] = record { clauses = omega arith; symbols = omega arith }
sized signature n (f ∷ fs) = let k = sized_by (is_left_out f) signature n f fs (sized signature (n + 1) fs) in record { clauses = k.0; symbols = k.1 }

pub one_symbol : (b : Bool) (known : List SymbolValue) (s : SymbolValue) → length (if b then known else known ++ s ∷ []) ≤ length known + 1
one_symbol true known s = omega arith
one_symbol false known s = omega (arith, length-append known (s ∷ []))

symbols_few : (ss known : List SymbolValue) → length (with_symbols known ss) ≤ length known + length ss
symbols_few [] known = omega arith
symbols_few (s ∷ ss) known = omega (arith, symbols_few ss (with_symbol known s), one_symbol (list_any (same_symbol s) known) known s)

-- The clauses are no heavier than the bytes are many, with their number; and there are no more symbols, but for c0.
pub record Small (bytes : List ℕ) (problem : ProblemValue) : Type 0 where
  pub clauses : clauses_weight problem.clauses + length problem.clauses ≤ length bytes
  pub functions : length problem.signature.functions ≤ length bytes + 1
  pub predicates : length problem.signature.predicates ≤ length bytes + 1

one_constant : (b : Bool) (functions : List SymbolValue) → length (if b then functions else functions ++ c0_symbol ∷ []) ≤ length functions + 1
one_constant true functions = omega arith
one_constant false functions = omega (arith, length-append functions (c0_symbol ∷ []))

file_small : (bytes : List ℕ) (fs : List WrittenFormula) → length (printed fs) ≤ length bytes → Small bytes (problem_of fs)
file_small bytes fs le =
    let s = sized (problem_of fs).signature 1 fs in
    record {
      clauses = omega (arith, s.clauses);
      functions = omega (arith, s.clauses, s.symbols, one_constant (list_any is_constant (with_symbols [] (file_functions fs))) (with_symbols [] (file_functions fs)), symbols_few (file_functions fs) []);
      predicates = omega (arith, s.clauses, s.symbols, symbols_few (file_predicates fs) []);
    }

pub small : (bytes : List ℕ) (problem : ProblemValue) → IsFile bytes problem → Small bytes problem
small bytes problem f =
    let count : length (printed f.file) ≡ length f.tokens = sym (printed_len (printed f.file)) ∙ ap length (sym f.written.written) ∙ terminals_len f.tokens in
    subst (Small bytes) (sym f.means) (file_small bytes f.file (omega (arith, count, tokens_fit f.tokens (all_of bytes) f.cut)))
