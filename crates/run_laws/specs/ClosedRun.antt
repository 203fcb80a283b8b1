-- A closed orderly run of two actors over the tree of one Split whose left leaf is exhausted.
use Rattle.std.specs.Prelude.{ℕ, true, false, List, [], ◌∷◌}
use Rattle.me_terms.specs.Context.{Context}
use Rattle.me_terms.specs.Outcome.{TreeOutcome}
use Rattle.me_terms.specs.Outcome as outcome
use Rattle.branch_core.specs.Core.{CoreValue, EventValue, Offer, Take, Post, Cut, End, first_core, after}
use Rattle.branch_core.specs.Parts.{PartValue}
use Rattle.branch_core.specs.Parts as part
use Rattle.branch_core.specs.Paths.{Turns, key}
use Rattle.branch_core.specs.Pieces as piece
use Rattle.branch_core.specs.Runs.{Log, IsOrderly, HasNoneLeft}
use Rattle.branch_core.specs.SearchTree.{SearchTree, Leaf, Node}
use Rattle.branch_core.specs.StandsFor.{Account}
use Rattle.branch_core.specs.Whole.{AreWholeOver}

-- The paths of the two children.
abbrev pub left_child : Turns
left_child = false ∷ []

abbrev pub right_child : Turns
right_child = true ∷ []

-- The left leaf is exhausted, and the right one came to anything.
abbrev pub one_split : Context → TreeOutcome → SearchTree
one_split context other = Node (Leaf (outcome.Sat context)) (Leaf other)

-- What the first actor hands back of the root, and what the second does of the gift.
abbrev pub root_parts : Context → List PartValue
root_parts context = part.Sat context ∷ part.Gift right_child ∷ []

abbrev pub gift_parts : List PartValue
gift_parts = part.Cut (key left_child) ∷ []

-- Actor 1 takes the root, gives the right child away and posts the key of the left leaf; actor 2 takes the gift and cuts it.
abbrev pub events : Context → List EventValue
events context =
    Take 1 [] ∷ Offer 1 [] right_child ∷ Take 2 right_child ∷ Post 1 (key left_child) ∷ Cut 2 right_child (key left_child)
    ∷ End 2 right_child gift_parts ∷ End 1 [] (root_parts context) ∷ []

-- The core after events, one after another.
abbrev pub after_all : CoreValue → List EventValue → CoreValue
after_all core [] = core
after_all core (event ∷ events) = after_all (after core event) events

-- The core at the end, where paths of one turn may be given away.
abbrev pub last_core : Context → CoreValue
last_core context = after_all (first_core 1) (events context)

abbrev pub accounts : Context → List Account
accounts context =
    record { path = right_child; pieces = piece.Cut right_child (key left_child) ∷ [] }
    ∷ record { path = []; pieces = piece.Sat left_child context ∷ piece.Gift right_child ∷ [] } ∷ []

abbrev pub whole_log : Context → Log
whole_log context = record {
  taken = [] ∷ right_child ∷ [];
  offerings = record { parent = []; path = right_child } ∷ [];
  postings = record { path = []; leaf = left_child; context = context } ∷ [];
  accounts = accounts context;
}

-- The run is orderly, it is closed, and its records are whole.
pub record IsClosedRun (list_bound : ℕ) (search : SearchTree) (core : CoreValue) (log : Log) : Type 0 where
  pub orderly : IsOrderly list_bound 1 search core log
  pub none_left : HasNoneLeft core
  pub whole : AreWholeOver list_bound search core.kept

abbrev pub ClosedRunExists : Type 0
ClosedRunExists = (list_bound : ℕ) (context : Context) (other : TreeOutcome) → IsClosedRun list_bound (one_split context other) (last_core context) (whole_log context)
