-- The next context unifier of a clause in tuple order.
use Rattle.std.specs.Prelude.{ℕ, List, Option, None}
use Rattle.me_terms.specs.Context.{Context}
use Rattle.me_terms.specs.declared.atom.Literal.{Literal}
use Rattle.joint_unifiers.specs.ClauseUnifiers.{UnifierValue, IsUnifierOf}
use Rattle.tuple_search.specs.Enumeration.{no_limits, IsNextTuple}

-- The unifier is of the clause's literals and the least later tuple that has one.
pub record IsNextUnifier (context : Context) (literals : List Literal) (after : Option (List ℕ)) (u : UnifierValue) : Type 0 where
  pub next : IsNextTuple context literals None no_limits after u.tuple
  pub unifier : IsUnifierOf context literals None u.tuple u
