-- What is done next at a context: the least Close; else the least Assert; else the least Split; else a bound is met, or nothing is left to do.
use Rattle.std.specs.Prelude.{◌≡◌, ℕ, ◌<◌, ◌≤◌, List, ◌∷◌, length, slice_get, Some, None, ◌⊎◌}
use Rattle.me_terms.specs.Measures.{literal_depth, literal_weight}
use Rattle.me_terms.specs.Values.{ProblemValue, ClauseValue, EntryValue}
use Rattle.me_terms.specs.Context.{Context}
use Rattle.me_terms.specs.Substitutions.{Family}
use Rattle.me_terms.specs.Positions.{positions_of}
use Rattle.me_terms.specs.Unifier.{unified}
use Rattle.me_terms.specs.Remainder.{remainder}
use Rattle.me_terms.specs.Productive.{IsProductiveUnifier, HasProductive}
use Rattle.me_terms.specs.Close.{HasClose}
use Rattle.me_terms.specs.Assert.{HasAssert}
use Rattle.me_terms.specs.Split.{split_kind, HasSplit}
use Rattle.me_terms.specs.Order.{Precedes, clause_key, IsLeastClose, IsLeastAssert, IsLeastSplit}
use Rattle.me_terms.specs.declared.bounds.Bound.{Bound}
use Rattle.me_terms.specs.declared.bounds.Bound.TheVariants as bound
use Rattle.me_terms.specs.declared.bounds.Bounds.{Bounds}
use Rattle.me_terms.specs.declared.entry.Kind.{Kind}
use Rattle.me_terms.specs.declared.atom.Literal.{Literal}

-- What is done next: a clause closes with a tuple, an entry is asserted, a literal is split on with a kind; or nothing is left to do, or a bound is met.
pub data NextValue : Type 0 where
  Close : ℕ → List ℕ → NextValue
  Assert : EntryValue → NextValue
  Split : Literal → Kind → NextValue
  Exhausted : NextValue
  Bounded : Bound → NextValue

-- The context may get a further entry: it has fewer entries than the bound on literals, hidden ones and the pseudo-literal counted.
abbrev pub HasRoom : Bounds → Context → Type 0
HasRoom bounds context = length context < bounds.literals

-- The literal l stands, under the unifier, at the first remainder place of the first productive unifier, by clause and then tuple.
pub record IsFirstRemaining (problem : ProblemValue) (context : Context) (l : Literal) : Type 0 where
  pub c : ℕ
  pub tuple : List ℕ
  pub clause : ClauseValue
  pub family : Family
  pub place : ℕ
  pub others : List ℕ
  pub literal : Literal
  pub productive : IsProductiveUnifier problem context c tuple clause family
  pub first : (c' : ℕ) (tuple' : List ℕ) (clause' : ClauseValue) (family' : Family) → IsProductiveUnifier problem context c' tuple' clause' family' → Precedes (clause_key c tuple) (clause_key c' tuple')
  pub first_place : remainder context (positions_of None tuple) family ≡ place ∷ others
  pub literal_at : slice_get clause.literals place ≡ Some literal
  pub unified_literal : l ≡ unified family literal

-- The literal is beyond this bound; depth goes before weight.
abbrev pub IsBeyond : Bound → Bounds → Literal → Type 0
IsBeyond bound.Depth bounds l = bounds.depth < literal_depth l
IsBeyond bound.Weight bounds l = (literal_depth l ≤ bounds.depth) × (bounds.weight < literal_weight l)
IsBeyond bound.Literals bounds l = ⊥
IsBeyond bound.List bounds l = ⊥

-- The context has no room for the entry of an Assert or a Split.
abbrev pub IsFull : ProblemValue → Bounds → Context → Type 0
IsFull problem bounds context = ¬ HasRoom bounds context × (HasAssert problem bounds context ⊎ HasSplit problem bounds context)

-- Nothing is left but productive unifiers whose remainder literals are beyond the bounds; the first one is beyond this bound.
abbrev pub IsStopped : ProblemValue → Bounds → Context → Bound → Type 0
IsStopped problem bounds context b =
    ¬ HasAssert problem bounds context × ¬ HasSplit problem bounds context
    × ((l : Literal) × IsFirstRemaining problem context l × IsBeyond b bounds l)

-- The bound that is met at a context without a Close.
abbrev pub MeetsBound : ProblemValue → Bounds → Context → Bound → Type 0
MeetsBound problem bounds context bound.Depth = IsStopped problem bounds context bound.Depth
MeetsBound problem bounds context bound.Weight = IsStopped problem bounds context bound.Weight
MeetsBound problem bounds context bound.Literals = IsFull problem bounds context
MeetsBound problem bounds context bound.List = ⊥

-- The next step of the context.
abbrev pub IsNext : ProblemValue → Bounds → Context → NextValue → Type 0
IsNext problem bounds context (Close c tuple) = IsLeastClose problem context c tuple
IsNext problem bounds context (Assert e) =
    ¬ HasClose problem context × HasRoom bounds context × IsLeastAssert problem bounds context e
IsNext problem bounds context (Split l kind) =
    ¬ HasClose problem context × ¬ HasAssert problem bounds context × HasRoom bounds context
    × IsLeastSplit problem bounds context l × (kind ≡ split_kind l)
IsNext problem bounds context (Bounded b) = ¬ HasClose problem context × MeetsBound problem bounds context b
IsNext problem bounds context Exhausted =
    ¬ HasClose problem context × ¬ HasAssert problem bounds context × ¬ HasProductive problem context
