-- Validity as tests.
use Rattle.std.specs.Prelude.{ℕ, ◌+◌, ◌-◌, ◌^◌, Bool, true, false, ◌&&◌, nat_lt, List, [], ◌∷◌, length, slice_get, Option, Some, None, eqb, ltb, if◌then◌else◌}
use Rattle.std.specs.List.{list_all}
use Rattle.me_terms.specs.Labels.{is_printable, is_digit}
use Rattle.me_terms.specs.Signatures.{takes, is_known_atom}
use Rattle.me_terms.specs.Variables.{is_numbered_from}
use Rattle.me_terms.specs.Validity.{clause_variables}
use Rattle.me_terms.specs.Values.{LabelValue, SymbolValue, SignatureValue, ClauseValue, ProblemValue}
use Rattle.problem_checks.specs.declared.symbols.SymbolKind.{SymbolKind}
use Rattle.problem_checks.specs.declared.symbols.SymbolKind.TheVariants.{Function, Predicate}
use Rattle.me_terms.specs.declared.symbol.Form.{Form}
use Rattle.me_terms.specs.declared.symbol.Form.TheVariants.{Word, Distinct, Number}

-- The number of the next variable behind these, where the next one is n; None where they are not numbered from n on by first occurrence.
abbrev pub numbered_on : ℕ → List ℕ → Option ℕ
numbered_on n [] = Some n
numbered_on n (x ∷ xs) = if ltb x n then numbered_on n xs else (if eqb x n then numbered_on (n + 1) xs else None)

abbrev pub is_some_text : List ℕ → Bool
is_some_text [] = false
is_some_text (byte ∷ text) = true

abbrev pub readable_as : Form → List ℕ → Bool
readable_as Word text = is_some_text text && list_all is_printable text
readable_as Distinct text = list_all is_printable text
readable_as Number text = is_some_text text && list_all is_digit text

abbrev pub readable : LabelValue → Bool
readable label = readable_as label.form label.text

abbrev pub names_clause : Form → Bool
names_clause Word = true
names_clause Distinct = false
names_clause Number = true

abbrev pub clause_label : LabelValue → Bool
clause_label label = readable label && names_clause label.form

abbrev pub function_form : Form → ℕ → Bool
function_form Word arity = true
function_form Distinct arity = eqb arity 0
function_form Number arity = false

abbrev pub function_symbol : SymbolValue → Bool
function_symbol s = readable s.label && function_form s.label.form s.arity

abbrev pub is_word_form : Form → Bool
is_word_form Word = true
is_word_form Distinct = false
is_word_form Number = false

abbrev pub predicate_symbol : SymbolValue → Bool
predicate_symbol s = readable s.label && is_word_form s.label.form

-- the test of the symbols of a kind
abbrev pub is_symbol : SymbolKind → SymbolValue → Bool
is_symbol Function = function_symbol
is_symbol Predicate = predicate_symbol

-- there is such a symbol, and it passes the test
abbrev pub has : (SymbolValue → Bool) → Option SymbolValue → Bool
has p None = false
has p (Some s) = p s

abbrev pub valid_clause : SignatureValue → ClauseValue → Bool
valid_clause signature c =
    list_all (λ l. is_known_atom signature l.atom) c.literals && is_numbered_from 0 (clause_variables c.literals) && clause_label c.label && nat_lt (length c.literals) (2 ^ 32 - 1)

abbrev pub valid_problem : ProblemValue → Bool
valid_problem p =
    list_all (valid_clause p.signature) p.clauses && nat_lt (length p.clauses) (2 ^ 32 - 1) && list_all function_symbol p.signature.functions && list_all predicate_symbol p.signature.predicates
    && takes (slice_get p.signature.functions p.c0) 0
