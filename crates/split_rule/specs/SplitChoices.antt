-- Which literal of a unifier's remainder is split on.
use Rattle.std.specs.Prelude.{◌≡◌, ℕ, List, [], ◌∷◌, length, slice_get, Option, Some, None}
use Rattle.std.specs.List.{Contains}
use Rattle.me_terms.specs.Substitutions.{Family}
use Rattle.me_terms.specs.Measures.{literal_weight, canonical_literal}
use Rattle.me_terms.specs.Values.{ProblemValue, ClauseValue}
use Rattle.me_terms.specs.Context.{Context}
use Rattle.me_terms.specs.Unifier.{unified}
use Rattle.me_terms.specs.Productive.{IsProductiveUnifier}
use Rattle.me_terms.specs.Fits.{Fits}
use Rattle.me_terms.specs.Split.{IsSplit, split_kind}
use Rattle.me_terms.specs.Order.{Precedes, split_key}
use Rattle.me_terms.specs.declared.bounds.Bounds.{Bounds}
use Rattle.me_terms.specs.declared.atom.Literal.{Literal}
use Rattle.joint_unifiers.specs.ClauseUnifiers.{UnifierValue, IsUnifierOf}
use Rattle.split_rule.specs.declared.choice.SplitChoice.{SplitChoice}

-- The place is one of these, and the literal l, which stands there, is within the bounds under the unifier f.
pub record MaySplit (literals : List Literal) (places : List ℕ) (bounds : Bounds) (f : Family) (place : ℕ) (l : Literal) : Type 0 where
  pub remains : Contains places place
  pub literal_at : slice_get literals place ≡ Some l
  pub fits : Fits bounds (unified f l)

-- By weight, then place.
abbrev pub place_key : ℕ → ℕ → List ℕ
place_key weight place = weight ∷ place ∷ []

-- The choice is a place of these whose literal is within the bounds, with its kind and weight, and none of them comes before it.
pub record IsSplitChoice (literals : List Literal) (places : List ℕ) (bounds : Bounds) (f : Family) (choice : SplitChoice) : Type 0 where
  pub literal : Literal
  pub allowed : MaySplit literals places bounds f choice.place literal
  pub kind : choice.kind ≡ split_kind (unified f literal)
  pub weight : choice.weight ≡ literal_weight (unified f literal)
  pub least : (place : ℕ) (l : Literal) → MaySplit literals places bounds f place l → Precedes (place_key choice.weight choice.place) (place_key (literal_weight (unified f l)) place)

-- What is chosen among the places: the least, or nothing where no literal is within the bounds.
abbrev pub IsChosen : List Literal → List ℕ → Bounds → Family → Option SplitChoice → Type 0
IsChosen literals places bounds f None = (place : ℕ) (l : Literal) → ¬ MaySplit literals places bounds f place l
IsChosen literals places bounds f (Some choice) = IsSplitChoice literals places bounds f choice

-- The choice is the Split of this clause, tuple and unifier that comes before all others of them. So many places remain.
pub record IsRuleChoice (problem : ProblemValue) (bounds : Bounds) (context : Context) (c : ℕ) (tuple : List ℕ) (clause : ClauseValue) (f : Family) (size : ℕ) (choice : SplitChoice) : Type 0 where
  pub literal : Literal
  pub literal_at : slice_get clause.literals choice.place ≡ Some literal
  pub split : IsSplit problem bounds context c choice.place tuple size (canonical_literal (unified f literal))
  pub kind : choice.kind ≡ split_kind (canonical_literal (unified f literal))
  pub weight : choice.weight ≡ literal_weight (canonical_literal (unified f literal))
  pub least : (place other : ℕ) (l : Literal) → IsSplit problem bounds context c place tuple other l → Precedes (split_key c tuple choice.place size (canonical_literal (unified f literal))) (split_key c tuple place other l)

-- The same of what is chosen, if anything is: nothing exactly where the clause and the tuple have no Split.
abbrev pub IsByRule : ProblemValue → Bounds → Context → ℕ → List ℕ → ClauseValue → Family → ℕ → Option SplitChoice → Type 0
IsByRule problem bounds context c tuple clause f size None = (place other : ℕ) (l : Literal) → ¬ IsSplit problem bounds context c place tuple other l
IsByRule problem bounds context c tuple clause f size (Some choice) = IsRuleChoice problem bounds context c tuple clause f size choice

-- What is chosen of the unifier's remainder is rule Split's wherever the unifier is a productive one.
abbrev pub FollowsRule : UnifierValue → Bounds → Option SplitChoice → Type 0
FollowsRule u bounds chosen =
    (problem : ProblemValue) (context : Context) (c : ℕ) (tuple : List ℕ) (clause : ClauseValue) (f : Family) → IsUnifierOf context clause.literals None tuple u → IsProductiveUnifier problem context c tuple clause f → IsByRule problem bounds context c tuple clause f (length u.remainder) chosen
