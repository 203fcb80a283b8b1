-- How far the queue of a leaf's list has been worked.
use Rattle.std.specs.Prelude.{◌≡◌, ◌≤◌, ℕ, ◌++◌, ◌∷◌, [], Bool, true, false, eqb, ◌&&◌, List, reverse, Option, Some}
use Rattle.std.specs.Bool.{beq}
use Rattle.std.specs.List.{All, list_any}
use Rattle.me_terms.specs.TermEquality.{same_atom}
use Rattle.me_terms.specs.Variables.{are_ground}
use Rattle.me_terms.specs.Measures.{list_weight}
use Rattle.me_terms.specs.Values.{ProblemValue, InstanceValue}
use Rattle.me_terms.specs.Context.{Context}
use Rattle.me_terms.specs.Positions.{positions_of}
use Rattle.me_terms.specs.FirstOccurrences.{same_instance, first_occurrences}
use Rattle.me_terms.specs.Grown.{IsGrown}
use Rattle.me_terms.specs.ListedInstances.{IsAskedInstance}
use Rattle.me_terms.specs.LeafList.{Demand, Adds}
use Rattle.me_terms.specs.declared.atom.Literal.{Literal}
use Rattle.me_terms.specs.declared.bounds.Bounds.{Bounds}
use Rattle.me_laws_refutation.specs.RightDemands.{IsRight}

-- The demands that wait, worked in turn after those that were asked, make a list of the instances that are listed. The asked ones are in the order in which they were asked.
abbrev pub Completes : ProblemValue → Context → List Demand → List Demand → List InstanceValue → List InstanceValue → Type 0
Completes problem context asked waiting listed list =
    (more : List InstanceValue) × Adds problem context (reverse asked) waiting more × (list ≡ first_occurrences (listed ++ more))

-- No instance stands twice.
abbrev pub AreDistinctInstances : List InstanceValue → Type 0
AreDistinctInstances [] = Unit {0}
AreDistinctInstances (i ∷ later) = (list_any (same_instance i) later ≡ false) × AreDistinctInstances later

-- The instances are listed once each, weigh so much, and no more than the bound.
pub record IsListing (bound : ℕ) (listed : List InstanceValue) (weight : ℕ) : Type 0 where
  pub distinct : AreDistinctInstances listed
  pub weighed : weight ≡ list_weight listed
  pub light : weight ≤ bound

-- The listed instances are a listing, and each demand that waits is for an entry that holds at its ground literal.
pub record IsUnderway (problem : ProblemValue) (context : Context) (bound : ℕ) (waiting : List Demand) (listed : List InstanceValue) (weight : ℕ) : Type 0 where
  pub listing : IsListing bound listed weight
  pub right : All (IsRight problem context) waiting

-- The context is grown over the problem, within some bounds.
abbrev pub IsGrownOver : ProblemValue → Context → Type 0
IsGrownOver problem context = (bounds : Bounds) × IsGrown problem bounds context

-- The test of equality of demands.
abbrev pub same_demand : Demand → Demand → Bool
same_demand d f = eqb d.0 f.0 && (beq d.1.positive f.1.positive && same_atom d.1.atom f.1.atom)

-- The literals are those of the instance of clause c by which an entry, asserted at that place with these positions, holds at a ground literal.
pub record IsDemanded (problem : ProblemValue) (context : Context) (c place : ℕ) (positions : List (Option ℕ)) (asked : Literal) (literals : List Literal) : Type 0 where
  pub tuple : List ℕ
  pub positions_are : positions ≡ positions_of (Some place) tuple
  pub instance : IsAskedInstance problem context c place tuple asked literals
  pub ground : are_ground asked.atom.args ≡ true
