-- Lines of a refutation as ground instances of a problem's clauses.
use Rattle.std.specs.Prelude.{◌≡◌, ℕ, List, map, length, take, slice_get, Some, IsTrue}
use Rattle.std.specs.List.{Any, list_all}
use Rattle.me_terms.specs.Substitutions.{Substitution, Family, apply_literal}
use Rattle.me_terms.specs.Signatures.{is_known_atom}
use Rattle.me_terms.specs.Values.{SignatureValue, ClauseValue, ProblemValue}
use Rattle.me_terms.specs.Validity.{IsValid}
use Rattle.me_terms.specs.Positions.{ClauseAt}
use Rattle.me_terms.specs.GroundInstances.{IsGroundInstance}
use Rattle.me_terms.specs.declared.atom.Literal.{Literal}
use Rattle.me_unify.specs.Equations.{Equation, SolvesAll}
use Rattle.szs_read.specs.Values.{InstanceLineValue}

-- The line has the number and the label of one and the same clause, and its literals are a ground instance of it over the problem's own signature.
pub record IsOwnInstance (problem : ProblemValue) (line : InstanceLineValue) : Type 0 where
  pub place : ℕ
  pub clause : ClauseValue
  pub clause_at : ClauseAt problem place clause
  pub number : line.number ≡ clause.number
  pub label : line.label ≡ clause.label
  pub instance : IsGroundInstance problem place line.literals

-- The atoms are over the signature.
abbrev pub AreKnown : SignatureValue → List Literal → Type 0
AreKnown signature literals = IsTrue (list_all (λ l. is_known_atom signature l.atom) literals)

-- A problem with this signature of its own, and the same problem with symbols more behind it. So many functions are its own.
pub record IsGrown (own grown : ProblemValue) (functions : ℕ) : Type 0 where
  pub valid : IsValid own
  pub clauses : grown.clauses ≡ own.clauses
  pub first : take (length own.signature.functions) grown.signature.functions ≡ own.signature.functions
  pub own_functions : functions ≡ length own.signature.functions

-- The family solves the equations and takes both literals to the same one.
abbrev pub SolvesWith : Family → List Equation → Literal → Literal → Type 0
SolvesWith u equations literal special = SolvesAll u equations × (apply_literal (u 0) literal ≡ apply_literal (u 1) special)

-- Substitutions, one for each side, take the literals of both lists to the same ones.
abbrev pub IsMatched : List Literal → List Literal → Type 0
IsMatched literals special = (u : Family) × (map (apply_literal (u 0)) literals ≡ map (apply_literal (u 1)) special)

-- The same of a clause and a line that have one number and one label.
pub record IsMatchedLine (clause : ClauseValue) (line : InstanceLineValue) : Type 0 where
  pub number : clause.number ≡ line.number
  pub label : clause.label ≡ line.label
  pub literals : IsMatched clause.literals line.literals

abbrev pub HasMatch : List ClauseValue → InstanceLineValue → Type 0
HasMatch clauses line = Any (λ clause. IsMatchedLine clause line) clauses
