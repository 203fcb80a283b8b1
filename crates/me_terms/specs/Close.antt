-- Close: which clauses a context refutes.
use Rattle.std.specs.Prelude.{◌≡◌, ℕ, List, [], None}
use Rattle.me_terms.specs.Substitutions.{Family}
use Rattle.me_terms.specs.Values.{ProblemValue, ClauseValue}
use Rattle.me_terms.specs.Context.{Context}
use Rattle.me_terms.specs.Positions.{ClauseAt, positions_of}
use Rattle.me_terms.specs.Unifier.{IsContextUnifier}
use Rattle.me_terms.specs.Remainder.{remainder}

-- A context unifier of clause c and the tuple has an empty remainder.
pub record IsClose (problem : ProblemValue) (context : Context) (c : ℕ) (tuple : List ℕ) : Type 0 where
  pub clause : ClauseValue
  pub family : Family
  pub clause_at : ClauseAt problem c clause
  pub unifier : IsContextUnifier context clause.literals None tuple family
  pub no_remainder : remainder context (positions_of None tuple) family ≡ []

-- Some clause of the problem closes the context.
abbrev pub HasClose : ProblemValue → Context → Type 0
HasClose problem context = (c : ℕ) × (tuple : List ℕ) × IsClose problem context c tuple
