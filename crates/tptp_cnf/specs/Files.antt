-- Which bytes are a file of the profile, and the problem that it means.
use Rattle.std.specs.Prelude.{◌≡◌, ℕ, List}
use Rattle.std.specs.List.{sum_by}
use Rattle.me_terms.specs.Measures.{literals_weight}
use Rattle.me_terms.specs.Values.{ClauseValue, ProblemValue}
use Rattle.tptp_tokens.specs.Tokens.{PlacedToken, IsCut}
use Rattle.tptp_grammar.specs.Terminals.{terminals}
use Rattle.tptp_grammar.specs.Written.{WrittenFormula}
use Rattle.tptp_grammar.specs.Files as grammar
use Rattle.tptp_cnf.specs.Meaning.{problem_of}

-- The tokens of the bytes are a file within the limits, and this is the problem that it means.
pub record IsFile (bytes : List ℕ) (problem : ProblemValue) : Type 0 where
  pub tokens : List PlacedToken
  pub cut : IsCut bytes tokens
  pub file : List WrittenFormula
  pub written : grammar.IsFileWithinLimits (terminals tokens) file
  pub means : problem ≡ problem_of file

-- the sum of the weights of the clauses
abbrev pub clauses_weight : List ClauseValue → ℕ
clauses_weight clauses = sum_by (λ c. literals_weight c.literals) clauses
