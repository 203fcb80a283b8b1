-- When a problem is valid, and when bounds are lawful.
use Rattle.std.specs.Prelude.{ℕ, ◌-◌, ◌^◌, ◌<◌, ◌≤◌, List, length, slice_get, IsTrue}
use Rattle.std.specs.List.{All, list_all, flat_map}
use Rattle.me_terms.specs.Labels.{IsClauseLabel, IsFunctionSymbol, IsPredicateSymbol}
use Rattle.me_terms.specs.Signatures.{takes, is_known_atom}
use Rattle.me_terms.specs.Variables.{variables_of, is_numbered_from}
use Rattle.me_terms.specs.Values.{SignatureValue, ClauseValue, ProblemValue}
use Rattle.me_terms.specs.declared.bounds.Bounds.{Bounds}
use Rattle.me_terms.specs.declared.bounds.TheConstants.{MAX_DEPTH, MAX_WEIGHT, MAX_ENTRIES, MAX_LIST}
use Rattle.me_terms.specs.declared.atom.Literal.{Literal}

-- The variables of a clause, in order, as often as they stand.
abbrev pub clause_variables : List Literal → List ℕ
clause_variables literals = flat_map (λ l. variables_of l.atom.args) literals

-- A clause over the signature, with its variables numbered by first occurrence.
pub record IsValidClause (signature : SignatureValue) (clause : ClauseValue) : Type 0 where
  pub known : IsTrue (list_all (λ l. is_known_atom signature l.atom) clause.literals)
  pub numbered : IsTrue (is_numbered_from 0 (clause_variables clause.literals))
  pub named : IsClauseLabel clause.label
  pub few_literals : length clause.literals < 2 ^ 32 - 1

-- Every clause is valid, every label can be read from a file, and c0 is a constant.
pub record IsValid (problem : ProblemValue) : Type 0 where
  pub clauses : All (IsValidClause problem.signature) problem.clauses
  pub few_clauses : length problem.clauses < 2 ^ 32 - 1
  pub functions : All IsFunctionSymbol problem.signature.functions
  pub predicates : All IsPredicateSymbol problem.signature.predicates
  pub c0_constant : IsTrue (takes (slice_get problem.signature.functions problem.c0) 0)

-- Each bound stands in its range. Either start will do.
pub record IsLawful (bounds : Bounds) : Type 0 where
  pub depth : (1 ≤ bounds.depth) × (bounds.depth ≤ MAX_DEPTH)
  pub weight : (1 ≤ bounds.weight) × (bounds.weight ≤ MAX_WEIGHT)
  pub literals : (1 ≤ bounds.literals) × (bounds.literals ≤ MAX_ENTRIES)
  pub list : (1 ≤ bounds.list) × (bounds.list ≤ MAX_LIST)
