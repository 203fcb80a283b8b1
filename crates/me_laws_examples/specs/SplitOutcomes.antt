-- The outcome of a node, from its left and its right tree's; and what is answered by a list at the list bound and beyond it.
use Rattle.std.specs.Prelude.{◌≡◌, ℕ, true, false, List, [], ◌∷◌}
use Rattle.me_terms.specs.Values.{InstanceValue}
use Rattle.me_terms.specs.Context.{Context}
use Rattle.me_terms.specs.FirstOccurrences.{first_occurrences, joined}
use Rattle.me_terms.specs.Outcome.{Closed, Sat, Met, both}
use Rattle.me_terms.specs.Answer.{answer_of, Unsatisfiable, GaveUp}
use Rattle.me_terms.specs.declared.bounds.Bound.TheVariants as bound
use Rattle.me_terms.specs.declared.bounds.Bounds.{Bounds}
use Rattle.me_terms.specs.declared.bounds.Start.TheVariants.{Negative}
use Rattle.me_laws_examples.specs.Letters.{a, p_of, literal}
use Rattle.me_laws_examples.specs.FirstRun.{first_list}

-- A Sat counts before a bound, a bound before a closed tree, and left before right.
pub record SplitOutcomes (left right : Context) (list more : List InstanceValue) : Type 0 where
  pub left_sat : both (Sat left) (Sat right) ≡ Sat left
  pub sat_over_closed : both (Closed list) (Sat right) ≡ Sat right
  pub sat_over_bound : both (Met bound.Depth) (Sat right) ≡ Sat right
  pub left_bound : both (Met bound.Weight) (Met bound.Depth) ≡ Met bound.Weight
  pub bound_on_the_left : both (Met bound.Depth) (Closed list) ≡ Met bound.Depth
  pub bound_on_the_right : both (Closed list) (Met bound.Depth) ≡ Met bound.Depth
  pub closed : both (Closed list) (Closed more) ≡ Closed (joined list more)

-- a bound for lists alone
abbrev pub list_bound : ℕ → Bounds
list_bound n = record { depth = 6; weight = 1000; literals = 2000; list = n; start = Negative }

-- p(a) of two clauses, and ~p(a)
abbrev pub first : InstanceValue
first = record { clause = 0; literals = literal true (p_of a) ∷ [] }

abbrev pub second : InstanceValue
second = record { clause = 1; literals = literal true (p_of a) ∷ [] }

abbrev pub third : InstanceValue
third = record { clause = 0; literals = literal false (p_of a) ∷ [] }

-- The list of example first-run weighs 2. A joined list keeps the first occurrence of each clause with its literals.
pub record ListsAreJoined : Type 0 where
  pub at_the_bound : answer_of (list_bound 2) (Closed first_list) ≡ Unsatisfiable first_list
  pub beyond_it : answer_of (list_bound 1) (Closed first_list) ≡ GaveUp bound.List
  pub each_once : first_occurrences (first ∷ second ∷ first ∷ third ∷ second ∷ []) ≡ first ∷ second ∷ third ∷ []
  pub joined_once : joined (first ∷ third ∷ []) (second ∷ third ∷ []) ≡ first ∷ third ∷ second ∷ []

abbrev pub OutcomesAreJoined : Type 0
OutcomesAreJoined = ((left right : Context) (list more : List InstanceValue) → SplitOutcomes left right list more) × ListsAreJoined
