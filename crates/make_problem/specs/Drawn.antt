-- The signature as far as words are drawn. Only the private calls speak of it.
use Rattle.std.specs.Prelude.{ℕ, ◌+◌, ◌^◌, ◌<◌, List, length}
use Rattle.me_terms.specs.Values.{SignatureValue}
use Rattle.tptp_cnf.specs.Meaning.{with_symbols}
use Rattle.make_problem.specs.Made.{predicates_of, constants_of}

-- The signature with the symbols of more words behind those that it has.
abbrev pub with_words : ℕ → SignatureValue → List ℕ → SignatureValue
with_words preds s words = record {
  functions = with_symbols s.functions (constants_of words);
  predicates = with_symbols s.predicates (predicates_of preds words);
}

-- So many more functions, and so many more predicates, have numbers below 2 ^ 32 - 1.
pub record HasRoom (signature : SignatureValue) (more : ℕ) : Type 0 where
  pub functions : length signature.functions + more < 2 ^ 32
  pub predicates : length signature.predicates + more < 2 ^ 32
