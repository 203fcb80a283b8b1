-- The ground instances by which a clause closes a context and by which an asserted entry holds.
use Rattle.std.specs.Prelude.{◌≡◌, ℕ, List, map, slice_get, Some, None}
use Rattle.std.specs.List.{Contains}
use Rattle.me_terms.specs.Terms.{TermValue, App, Nil}
use Rattle.me_terms.specs.Variables.{variables_of}
use Rattle.me_terms.specs.Substitutions.{Family, Substitution, apply_literal}
use Rattle.me_terms.specs.Values.{ProblemValue, ClauseValue}
use Rattle.me_terms.specs.Context.{Context}
use Rattle.me_terms.specs.Positions.{ClauseAt, positions_of}
use Rattle.me_terms.specs.Unifier.{IsUnifier, unified}
use Rattle.me_terms.specs.declared.atom.Literal.{Literal}

-- The constant of that number.
abbrev pub constant : ℕ → TermValue
constant f = App f Nil

-- The literals of an instance: each under the unifier, and then under a substitution of what the unifier leaves.
abbrev pub instance_of : Family → Substitution → List Literal → List Literal
instance_of family reading literals = map (λ l. apply_literal reading (unified family l)) literals

-- The instance of the closing clause c: every variable that the unifier leaves is read as c0.
pub record IsClosingInstance (problem : ProblemValue) (context : Context) (c : ℕ) (tuple : List ℕ) (literals : List Literal) : Type 0 where
  pub clause : ClauseValue
  pub family : Family
  pub clause_at : ClauseAt problem c clause
  pub unifier : IsUnifier context clause.literals (positions_of None tuple) family
  pub is_instance : literals ≡ instance_of family (λ x. constant problem.c0) clause.literals

-- The instance of clause c by which an entry that was asserted at that place holds at the literal: the unifier of the other places, then the matching of the literal at that place with it, and c0 for every variable that is left.
pub record IsAskedInstance (problem : ProblemValue) (context : Context) (c place : ℕ) (tuple : List ℕ) (asked : Literal) (literals : List Literal) : Type 0 where
  pub clause : ClauseValue
  pub literal : Literal
  pub family : Family
  pub matching : Substitution
  pub clause_at : ClauseAt problem c clause
  pub literal_at : slice_get clause.literals place ≡ Some literal
  pub unifier : IsUnifier context clause.literals (positions_of (Some place) tuple) family
  pub matches : apply_literal matching (unified family literal) ≡ asked
  pub others : (x : ℕ) → ¬ Contains (variables_of (unified family literal).atom.args) x → matching x ≡ constant problem.c0
  pub is_instance : literals ≡ instance_of family matching clause.literals
