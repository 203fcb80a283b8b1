-- Productive context unifiers.
use Rattle.std.specs.Prelude.{ℕ, List, Option, None}
use Rattle.me_terms.specs.Substitutions.{Family}
use Rattle.me_terms.specs.Measures.{complement}
use Rattle.me_terms.specs.Values.{ProblemValue, ClauseValue, EntryValue}
use Rattle.me_terms.specs.Context.{Context}
use Rattle.me_terms.specs.Produces.{Produces}
use Rattle.me_terms.specs.Positions.{ClauseAt, positions_of, StandsAgainst}
use Rattle.me_terms.specs.Unifier.{IsContextUnifier, unified}
use Rattle.me_terms.specs.declared.atom.Literal.{Literal}

-- At each place the entry produces the complement of the literal under the unifier.
abbrev pub IsProductive : Context → List Literal → List (Option ℕ) → Family → Type 0
IsProductive context literals positions u =
    (i k : ℕ) (l : Literal) (e : EntryValue) → StandsAgainst context literals positions i l k e → Produces context k e (complement (unified u l))

-- The family is a productive context unifier of clause c and the tuple.
pub record IsProductiveUnifier (problem : ProblemValue) (context : Context) (c : ℕ) (tuple : List ℕ) (clause : ClauseValue) (family : Family) : Type 0 where
  pub clause_at : ClauseAt problem c clause
  pub unifier : IsContextUnifier context clause.literals None tuple family
  pub productive : IsProductive context clause.literals (positions_of None tuple) family

-- Some clause of the problem has a productive context unifier.
abbrev pub HasProductive : ProblemValue → Context → Type 0
HasProductive problem context =
    (c : ℕ) × (tuple : List ℕ) × (clause : ClauseValue) × (family : Family) × IsProductiveUnifier problem context c tuple clause family
