-- The problem that is made of a seed.
use Rattle.std.specs.Prelude.{◌≡◌, ℕ, zero, suc, ◌+◌, ◌*◌, ◌/◌, ◌%◌, Bool, List, [], ◌∷◌, ◌++◌, map, take, drop, codes, decimal, eqb, option_to_list, Option, Some, None}
use Rattle.std.specs.List.{position_or_len, flat_map}
use Rattle.me_terms.specs.Signatures.{number_of}
use Rattle.me_terms.specs.Terms.{TermValue, Var, App, Nil, Cons}
use Rattle.me_terms.specs.Values.{LabelValue, SymbolValue, SignatureValue, ClauseValue, ProblemValue}
use Rattle.me_terms.specs.declared.atom.Literal.{Literal}
use Rattle.rand_core.specs.Pcg32Seed.{pcg32_seed}
use Rattle.rand_core.specs.Steps.{first_words}
use Rattle.rand_pcg.specs.Pcg.{pcg32, pcg32_of_seed}
use Rattle.tptp_cnf.specs.Meaning.{word, symbol, with_symbols, is_constant, with_constant}

-- The first words of the generator `Pcg32` that `seed_from_u64` makes of the seed.
unfoldable pub words_of : ℕ → ℕ → List ℕ
words_of seed count = first_words pcg32 count (pcg32_of_seed (pcg32_seed 16 seed))

-- ---- what a word says

-- The predicate is `p` and the word modulo the number of predicates, with one argument.
abbrev pub predicate_of : ℕ → ℕ → SymbolValue
predicate_of preds w = symbol (word (codes "p" ++ decimal (w % preds))) 1

-- The literal is negative where bit 16 is set.
abbrev pub is_made_positive : ℕ → Bool
is_made_positive w = eqb (w / 65536 % 2) 0

-- Of four choices, the first is the constant `a` and the second the constant `b`; the others are no constant.
abbrev pub constant_by : ℕ → Option SymbolValue
constant_by zero = Some (symbol (word (codes "a")) 0)
constant_by (suc zero) = Some (symbol (word (codes "b")) 0)
constant_by (suc (suc n)) = None

-- Bits 17 and 18 choose the argument.
abbrev pub constant_of : ℕ → Option SymbolValue
constant_of w = constant_by (w / 131072 % 4)

-- The argument is the constant, and where there is none it is the clause's variable.
abbrev pub argument_as : List SymbolValue → Option SymbolValue → TermValue
argument_as functions (Some s) = App (number_of s functions) Nil
argument_as functions None = Var 0

-- The literal of a word.
abbrev pub literal_of : ℕ → SignatureValue → ℕ → Literal
literal_of preds signature w = record {
  positive = is_made_positive w;
  atom = record {
    pred = number_of (predicate_of preds w) signature.predicates;
    args = Cons (argument_as signature.functions (constant_of w)) Nil;
  };
}

-- ---- what many words say

-- The predicates of the words, as often as they stand.
abbrev pub predicates_of : ℕ → List ℕ → List SymbolValue
predicates_of preds words = map (predicate_of preds) words

-- The constants of the words, as often as they stand.
abbrev pub constants_of : List ℕ → List SymbolValue
constants_of words = flat_map (λ w. option_to_list (constant_of w)) words

-- The literals of the words.
abbrev pub made_literals : ℕ → SignatureValue → List ℕ → List Literal
made_literals preds signature words = map (literal_of preds signature) words

-- A clause is labelled by `g` and its number.
abbrev pub made_label : ℕ → LabelValue
made_label number = word (codes "g" ++ decimal number)

-- So many clauses, the first of which has this number. Each takes three words.
abbrev pub made_clauses : ℕ → SignatureValue → ℕ → ℕ → List ℕ → List ClauseValue
made_clauses preds signature number zero words = []
made_clauses preds signature number (suc more) words =
    (record { number = number; label = made_label number; literals = made_literals preds signature (take 3 words) })
    ∷ made_clauses preds signature (number + 1) more (drop 3 words)

-- The problem has the clauses of the seed's words, numbered from 1. Its symbols are numbered by first occurrence, and c0 is the first constant, as for a file.
pub record IsMade (seed preds clauses : ℕ) (problem : ProblemValue) : Type 0 where
  pub clauses_are : problem.clauses ≡ made_clauses preds problem.signature 1 clauses (words_of seed (3 * clauses))
  pub functions : problem.signature.functions ≡ with_constant (with_symbols [] (constants_of (words_of seed (3 * clauses))))
  pub predicates : problem.signature.predicates ≡ with_symbols [] (predicates_of preds (words_of seed (3 * clauses)))
  pub c0 : problem.c0 ≡ position_or_len is_constant problem.signature.functions
