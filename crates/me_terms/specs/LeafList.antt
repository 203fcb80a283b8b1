-- The list of instances of a closed leaf.
use Rattle.std.specs.Prelude.{◌≡◌, ℕ, ◌++◌, ◌⊎◌, List, [], ◌∷◌, Option, Some, None}
use Rattle.std.specs.List.{Contains}
use Rattle.me_terms.specs.Measures.{complement}
use Rattle.me_terms.specs.Values.{ProblemValue, EntryValue, InstanceValue, Asserted}
use Rattle.me_terms.specs.Context.{Context, StandsAt}
use Rattle.me_terms.specs.Positions.{positions_of}
use Rattle.me_terms.specs.FirstOccurrences.{first_occurrences}
use Rattle.me_terms.specs.ListedInstances.{IsClosingInstance, IsAskedInstance}
use Rattle.me_terms.specs.declared.atom.Literal.{Literal}

-- The entry at a position is asked for at a ground literal.
abbrev pub Demand : Type 0
Demand = ℕ × Literal

-- Each literal of an instance, in order, asks for its entry at the literal's complement; that at a skipped place asks nothing.
abbrev pub demands : List Literal → List (Option ℕ) → List Demand
demands [] ks = []
demands (l ∷ ls) [] = []
demands (l ∷ ls) (None ∷ ks) = demands ls ks
demands (l ∷ ls) (Some k ∷ ks) = (k, complement l) ∷ demands ls ks

-- The entry at position k was asserted by clause c, a place in it and the tuple.
abbrev pub IsAsserted : Context → ℕ → ℕ → ℕ → List ℕ → Type 0
IsAsserted context k c place tuple = (e : EntryValue) × StandsAt context k e × (e.reason ≡ Asserted c place tuple)

-- The entry was asked for at this literal before, or it was not asserted.
abbrev pub AddsNothing : Context → List Demand → Demand → Type 0
AddsNothing context before d =
    Contains before d ⊎ ((c place : ℕ) (tuple : List ℕ) → ¬ IsAsserted context d.0 c place tuple)

-- The demands that wait, worked in turn after those before them, add these instances. An added instance goes to the end of the queue, and so do its demands.
pub data Adds (problem : ProblemValue) (context : Context) : List Demand → List Demand → List InstanceValue → Type 0 where
  none_waits : {before : List Demand} → Adds problem context before [] []
  passes : {before waiting : List Demand} {d : Demand} {list : List InstanceValue} → AddsNothing context before d → Adds problem context before waiting list → Adds problem context before (d ∷ waiting) list
  adds : {before waiting : List Demand} {d : Demand} {c place : ℕ} {tuple : List ℕ} {literals : List Literal} {list : List InstanceValue} → ¬ Contains before d → IsAsserted context d.0 c place tuple → IsAskedInstance problem context c place tuple d.1 literals → Adds problem context (d ∷ before) (waiting ++ demands literals (positions_of (Some place) tuple)) list → Adds problem context before (d ∷ waiting) (record { clause = c; literals = literals } ∷ list)

-- The list of a leaf that clause c and the tuple close: the closing instance, and those that its demands add, each once.
abbrev pub IsLeafList : ProblemValue → Context → ℕ → List ℕ → List InstanceValue → Type 0
IsLeafList problem context c tuple list =
    (literals : List Literal) × (added : List InstanceValue) × IsClosingInstance problem context c tuple literals
    × Adds problem context [] (demands literals (positions_of None tuple)) added
    × (list ≡ first_occurrences (record { clause = c; literals = literals } ∷ added))
