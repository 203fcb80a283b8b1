-- Plainness as tests.
use Rattle.std.specs.Prelude.{◌≡◌, ℕ, ◌+◌, Bool, true, false, ◌&&◌, ◌||◌, eqb, nat_lt, nat_le, List, [], ◌∷◌, codes, length, slice_get, Option, Some, None}
use Rattle.std.specs.List.{list_all, list_any, position_or_len, flat_map}
use Rattle.std.specs.Str.{bytes_eq}
use Rattle.me_terms.specs.Measures.{literal_depth}
use Rattle.me_terms.specs.Signatures.{number_of}
use Rattle.me_terms.specs.Terms.{TermValue, Arguments}
use Rattle.me_terms.specs.Validity.{clause_variables}
use Rattle.me_terms.specs.Values.{SymbolValue, SignatureValue, ClauseValue, ProblemValue}
use Rattle.me_terms.specs.Variables.{term_variables, variables_of}
use Rattle.me_terms.specs.declared.atom.Literal.{Literal}
use Rattle.problem_checks.specs.ValidityTests.{has, is_word_form, numbered_on}
use Rattle.tptp_grammar.specs.declared.limits.TheConstants.{MAX_FORMULAS, MAX_LITERALS, MAX_VARIABLES, MAX_ARGUMENTS, MAX_BRACKETS}
use Rattle.tptp_cnf.specs.Meaning.{is_constant}
use Rattle.tptp_cnf.specs.Plain.{term_function_numbers, function_numbers, clauses_functions, clauses_predicates}
use Rattle.problem_checks.specs.declared.numbering.Counted.{Counted}
use Rattle.problem_checks.specs.declared.numbering.Counted.TheVariants.{Functions, Variables}

-- the numbers that are looked at, as often as they stand
abbrev pub term_numbers : Counted → TermValue → List ℕ
term_numbers Functions t = term_function_numbers t
term_numbers Variables t = term_variables t

abbrev pub numbers_of : Counted → Arguments → List ℕ
numbers_of Functions ts = function_numbers ts
numbers_of Variables ts = variables_of ts

abbrev pub literals_numbers : Counted → List Literal → List ℕ
literals_numbers counted literals = flat_map (λ l. numbers_of counted l.atom.args) literals

abbrev pub predicate_numbers : List Literal → List ℕ
predicate_numbers literals = flat_map (λ l. l.atom.pred ∷ []) literals

-- The symbol of this number, where there is one, stands nowhere before.
abbrev pub HasOwnNumber : List SymbolValue → ℕ → Type 0
HasOwnNumber symbols n = (s : SymbolValue) → slice_get symbols n ≡ Some s → number_of s symbols ≡ n

-- Each symbol stands once, so its number leads back to it.
abbrev pub HaveOwnNumbers : List SymbolValue → Type 0
HaveOwnNumbers symbols = (n : ℕ) → HasOwnNumber symbols n

abbrev pub is_numbered : ℕ → ClauseValue → Bool
is_numbered n c = eqb c.number n

-- the clauses have the numbers from this one on
abbrev pub are_numbered : ℕ → List ClauseValue → Bool
are_numbered n [] = true
are_numbered n (c ∷ cs) = is_numbered n c && are_numbered (n + 1) cs

-- there is a number, and it is at most this
abbrev pub at_most : ℕ → Option ℕ → Bool
at_most most None = false
at_most most (Some n) = nat_le n most

-- Of the brackets, one is open round the formula.
abbrev pub is_shallow : Literal → Bool
is_shallow l = nat_lt (literal_depth l) MAX_BRACKETS

abbrev pub is_within : ClauseValue → Bool
is_within c = nat_le (length c.literals) MAX_LITERALS && at_most MAX_VARIABLES (numbered_on 0 (clause_variables c.literals)) && list_all is_shallow c.literals

abbrev pub has_few_arguments : SymbolValue → Bool
has_few_arguments s = nat_le s.arity MAX_ARGUMENTS

abbrev pub have_few_arguments : SignatureValue → Bool
have_few_arguments signature = list_all has_few_arguments signature.functions && list_all has_few_arguments signature.predicates

abbrev pub is_c0 : SymbolValue → Bool
is_c0 s = eqb s.arity 0 && is_word_form s.label.form && bytes_eq s.label.text (codes "c0")

abbrev pub is_first_constant : List SymbolValue → ℕ → Bool
is_first_constant functions c0 = list_any is_constant functions && eqb c0 (position_or_len is_constant functions)

-- So many functions occur, which are all, or all but c0, the last one.
abbrev pub are_plain_functions : List SymbolValue → ℕ → Option ℕ → Bool
are_plain_functions functions c0 None = false
are_plain_functions functions c0 (Some n) = eqb n (length functions) || (eqb c0 n && eqb (c0 + 1) (length functions) && has is_c0 (slice_get functions c0))

abbrev pub are_plain_predicates : List SymbolValue → Option ℕ → Bool
are_plain_predicates predicates None = false
are_plain_predicates predicates (Some n) = eqb n (length predicates)

-- the tests that a valid problem whose symbols have few arguments passes if it is plain
abbrev pub passes_plain_tests : ProblemValue → Bool
passes_plain_tests p =
    are_numbered 1 p.clauses && are_plain_functions p.signature.functions p.c0 (numbered_on 0 (clauses_functions p.clauses)) && are_plain_predicates p.signature.predicates (numbered_on 0 (clauses_predicates p.clauses))
    && is_first_constant p.signature.functions p.c0
    && nat_le (length p.clauses) MAX_FORMULAS
    && list_all is_within p.clauses
