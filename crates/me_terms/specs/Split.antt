-- Split: on which literals a search may branch.
use Rattle.std.specs.Prelude.{◌≡◌, ℕ, List, length, slice_get, Some, None, if◌then◌else◌}
use Rattle.std.specs.List.{Contains}
use Rattle.me_terms.specs.Variables.{are_ground}
use Rattle.me_terms.specs.Substitutions.{Family}
use Rattle.me_terms.specs.Measures.{canonical_literal}
use Rattle.me_terms.specs.Values.{ProblemValue, ClauseValue}
use Rattle.me_terms.specs.Context.{Context}
use Rattle.me_terms.specs.Positions.{positions_of}
use Rattle.me_terms.specs.Unifier.{unified}
use Rattle.me_terms.specs.Remainder.{remainder}
use Rattle.me_terms.specs.Productive.{IsProductiveUnifier}
use Rattle.me_terms.specs.Fits.{Fits}
use Rattle.me_terms.specs.declared.bounds.Bounds.{Bounds}
use Rattle.me_terms.specs.declared.entry.Kind.{Kind}
use Rattle.me_terms.specs.declared.entry.Kind.TheVariants.{Universal, Parametric}
use Rattle.me_terms.specs.declared.atom.Literal.{Literal}

-- Parametric, or Universal if ground.
abbrev pub split_kind : Literal → Kind
split_kind l = if are_ground l.atom.args then Universal else Parametric

-- The literal l may be split on at a place of clause c and the tuple, whose remainder has so many places.
pub record IsSplit (problem : ProblemValue) (bounds : Bounds) (context : Context) (c place : ℕ) (tuple : List ℕ) (size : ℕ) (l : Literal) : Type 0 where
  pub clause : ClauseValue
  pub literal : Literal
  pub family : Family
  pub productive : IsProductiveUnifier problem context c tuple clause family
  pub literal_at : slice_get clause.literals place ≡ Some literal
  pub remains : Contains (remainder context (positions_of None tuple) family) place
  pub size_of : size ≡ length (remainder context (positions_of None tuple) family)
  pub split_literal : l ≡ canonical_literal (unified family literal)
  pub fits : Fits bounds l

-- Some literal may be split on.
abbrev pub HasSplit : ProblemValue → Bounds → Context → Type 0
HasSplit problem bounds context =
    (c place size : ℕ) × (tuple : List ℕ) × (l : Literal) × IsSplit problem bounds context c place tuple size l
