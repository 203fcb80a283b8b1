-- Problems whose places can be numbered.
use Rattle.std.specs.Prelude.{◌-◌, ◌^◌, ◌<◌, length}
use Rattle.std.specs.List.{All}
use Rattle.me_terms.specs.Values.{ProblemValue}

-- There are few enough clauses, and literals in each of them, for their places to be numbers of 32 bits.
pub record HasFewPlaces (problem : ProblemValue) : Type 0 where
  pub clauses : length problem.clauses < 2 ^ 32 - 1
  pub literals : All (λ clause. length clause.literals < 2 ^ 32 - 1) problem.clauses
