-- What a file means as a problem.
use Rattle.std.specs.Prelude.{ℕ, suc, ◌+◌, Bool, true, false, not, List, [], ◌∷◌, ◌++◌, eqb, codes, if◌then◌else◌}
use Rattle.std.specs.List.{list_any, position_or_len, flat_map}
use Rattle.std.specs.Str.{bytes_eq}
use Rattle.me_terms.specs.Signatures.{with_symbol, number_of}
use Rattle.me_terms.specs.Terms.{TermValue, Var, App, Arguments, Nil, Cons}
use Rattle.me_terms.specs.Values.{LabelValue, SymbolValue, SignatureValue, ClauseValue, ProblemValue}
use Rattle.me_terms.specs.declared.atom.Literal.{Literal}
use Rattle.me_terms.specs.declared.symbol.Form.TheVariants.{Word, Distinct as DistinctForm, Number}
use Rattle.tptp_grammar.specs.Written.{Name, name_text, WrittenTerm, Variable, Distinct, Apply, WrittenTerms, NoTerms, OneMore, WrittenAtom, Truth, Predicate, Sign, Positive, Negative, NegativeInBrackets, WrittenLiteral, WrittenLabel, Named, Numbered, WrittenFormula}
use Rattle.tptp_grammar.specs.Limits.{with_variables}

-- ---- labels and symbols

-- a lower word and a single quoted word with the same text are one label
abbrev pub word : List ℕ → LabelValue
word text = record { form = Word; text = text }

-- a distinct object, which is no word even with the same text
abbrev pub distinct : List ℕ → LabelValue
distinct text = record { form = DistinctForm; text = text }

abbrev pub label_of : WrittenLabel → LabelValue
label_of (Named name) = word (name_text name)
label_of (Numbered digits) = record { form = Number; text = digits }

abbrev pub symbol : LabelValue → ℕ → SymbolValue
symbol label arity = record { label = label; arity = arity }

-- how many arguments
abbrev pub terms_count : WrittenTerms → ℕ
terms_count NoTerms = 0
terms_count (OneMore t ts) = suc (terms_count ts)

abbrev pub name_symbol : Name → WrittenTerms → SymbolValue
name_symbol name ts = symbol (word (name_text name)) (terms_count ts)

abbrev pub is_constant : SymbolValue → Bool
is_constant s = eqb s.arity 0

-- ---- which literals and formulas are left out

abbrev pub is_positive : Sign → Bool
is_positive Positive = true
is_positive Negative = false
is_positive NegativeInBrackets = false

-- whether both are true, or both are false
abbrev pub same_truth : Bool → Bool → Bool
same_truth true b = b
same_truth false b = not b

-- a literal with this atom and sign is $true or ~$false
abbrev pub is_true_atom : Bool → WrittenAtom → Bool
is_true_atom positive (Truth value) = same_truth positive value
is_true_atom positive (Predicate name ts) = false

abbrev pub is_true : WrittenLiteral → Bool
is_true l = is_true_atom (is_positive l.sign) l.atom

abbrev pub literals_of : WrittenFormula → List WrittenLiteral
literals_of f = f.first ∷ f.others

-- A formula with a literal $true or ~$false is left out whole.
abbrev pub is_left_out : WrittenFormula → Bool
is_left_out f = list_any is_true (literals_of f)

-- ---- symbols and variables, as often as they stand, from left to right

-- a function stands before its arguments
abbrev mutual
  pub term_functions : WrittenTerm → List SymbolValue
  term_functions (Variable text) = []
  term_functions (Distinct text) = symbol (distinct text) 0 ∷ []
  term_functions (Apply name ts) = name_symbol name ts ∷ terms_functions ts

  pub terms_functions : WrittenTerms → List SymbolValue
  terms_functions NoTerms = []
  terms_functions (OneMore t ts) = term_functions t ++ terms_functions ts

abbrev mutual
  pub variables_in_term : WrittenTerm → List (List ℕ)
  variables_in_term (Variable text) = text ∷ []
  variables_in_term (Distinct text) = []
  variables_in_term (Apply name ts) = terms_variables ts

  pub terms_variables : WrittenTerms → List (List ℕ)
  terms_variables NoTerms = []
  terms_variables (OneMore t ts) = variables_in_term t ++ terms_variables ts

abbrev pub atom_predicates : WrittenAtom → List SymbolValue
atom_predicates (Truth value) = []
atom_predicates (Predicate name ts) = name_symbol name ts ∷ []

abbrev pub atom_functions : WrittenAtom → List SymbolValue
atom_functions (Truth value) = []
atom_functions (Predicate name ts) = terms_functions ts

abbrev pub atom_variables : WrittenAtom → List (List ℕ)
atom_variables (Truth value) = []
atom_variables (Predicate name ts) = terms_variables ts

abbrev pub literals_predicates : List WrittenLiteral → List SymbolValue
literals_predicates ls = flat_map (λ l. atom_predicates l.atom) ls

abbrev pub literals_functions : List WrittenLiteral → List SymbolValue
literals_functions ls = flat_map (λ l. atom_functions l.atom) ls

abbrev pub literals_variables : List WrittenLiteral → List (List ℕ)
literals_variables ls = flat_map (λ l. atom_variables l.atom) ls

-- those of the formulas that are not left out
abbrev pub file_predicates : List WrittenFormula → List SymbolValue
file_predicates [] = []
file_predicates (f ∷ fs) = if is_left_out f then file_predicates fs else literals_predicates (literals_of f) ++ file_predicates fs

abbrev pub file_functions : List WrittenFormula → List SymbolValue
file_functions [] = []
file_functions (f ∷ fs) = if is_left_out f then file_functions fs else literals_functions (literals_of f) ++ file_functions fs

-- the known symbols, and behind them those of the others that are new, in the order of first occurrence
abbrev pub with_symbols : List SymbolValue → List SymbolValue → List SymbolValue
with_symbols known [] = known
with_symbols known (s ∷ ss) = with_symbols (with_symbol known s) ss

-- ---- terms, literals and clauses

-- the place at which a text stands first, from 0
abbrev pub text_place : List ℕ → List (List ℕ) → ℕ
text_place text texts = position_or_len (bytes_eq text) texts

-- a term over these functions and variables
abbrev mutual
  pub term_of : List SymbolValue → List (List ℕ) → WrittenTerm → TermValue
  term_of functions variables (Variable text) = Var (text_place text variables)
  term_of functions variables (Distinct text) = App (number_of (symbol (distinct text) 0) functions) Nil
  term_of functions variables (Apply name ts) = App (number_of (name_symbol name ts) functions) (terms_of functions variables ts)

  pub terms_of : List SymbolValue → List (List ℕ) → WrittenTerms → Arguments
  terms_of functions variables NoTerms = Nil
  terms_of functions variables (OneMore t ts) = Cons (term_of functions variables t) (terms_of functions variables ts)

-- The literal with this sign and atom. A literal $false or ~$true is left out; in a formula that is kept there is no $true or ~$false.
abbrev pub signed_literal : SignatureValue → List (List ℕ) → Bool → WrittenAtom → List Literal
signed_literal signature variables positive (Truth value) = []
signed_literal signature variables positive (Predicate name ts) = (record { positive = positive; atom = record { pred = number_of (name_symbol name ts) signature.predicates; args = terms_of signature.functions variables ts } }) ∷ []

abbrev pub clause_literals : SignatureValue → List (List ℕ) → List WrittenLiteral → List Literal
clause_literals signature variables ls = flat_map (λ l. signed_literal signature variables (is_positive l.sign) l.atom) ls

-- the variables of a formula, in the order of first occurrence
abbrev pub variables_in_formula : WrittenFormula → List (List ℕ)
variables_in_formula f = with_variables [] (literals_variables (literals_of f))

-- the clause of the formula with this number: its literals in order, repeated ones too
abbrev pub clause_of : SignatureValue → ℕ → WrittenFormula → ClauseValue
clause_of signature number f = record { number = number; label = label_of f.label; literals = clause_literals signature (variables_in_formula f) (literals_of f) }

-- the clauses of the formulas, the first of which has this number; that of a formula that is left out stays used
abbrev pub clauses_of : SignatureValue → ℕ → List WrittenFormula → List ClauseValue
clauses_of signature number [] = []
clauses_of signature number (f ∷ fs) = if is_left_out f then clauses_of signature (number + 1) fs else clause_of signature number f ∷ clauses_of signature (number + 1) fs

-- ---- problems

abbrev pub c0_symbol : SymbolValue
c0_symbol = symbol (word (codes "c0")) 0

-- Where no function is a constant, c0 is added as the last one.
abbrev pub with_constant : List SymbolValue → List SymbolValue
with_constant functions = if list_any is_constant functions then functions else functions ++ c0_symbol ∷ []

-- the functions and the predicates of a file by their numbers
abbrev pub signature_of : List WrittenFormula → SignatureValue
signature_of file = record { functions = with_constant (with_symbols [] (file_functions file)); predicates = with_symbols [] (file_predicates file) }

-- The problem that a file means. Its c0 is the first constant.
abbrev pub problem_of : List WrittenFormula → ProblemValue
problem_of file =
    let signature = signature_of file in
    record { clauses = clauses_of signature 1 file; signature = signature; c0 = position_or_len is_constant signature.functions }
