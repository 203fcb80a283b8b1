-- The closed run of the example holds two walks, and each hands back a portion.
use Rattle.std.specs.Prelude.{ℕ, List, [], ◌∷◌}
use Rattle.me_terms.specs.Context.{Context}
use Rattle.me_terms.specs.Outcome.{TreeOutcome}
use Rattle.branch_core.specs.Paths.{Turns, key}
use Rattle.branch_core.specs.Pieces.{Piece, Sat, Gift, Cut}
use Rattle.branch_core.specs.Portions.{IsPortion}
use Rattle.branch_core.specs.Runs.{Log}
use Rattle.branch_core.specs.SearchTree.{SearchTree}
use Rattle.branch_core.specs.StandsFor.{record_of}
use Rattle.run_laws.specs.ClosedRun.{left_child, right_child, one_split, whole_log}
use Rattle.run_laws.specs.PortionInRun.{HoldsWalk}

-- The pieces are those of a portion of the path, where paths of one turn may be given away, and the log holds its walk.
pub record HoldsPortion (list_bound : ℕ) (search : SearchTree) (log : Log) (path : Turns) (told : List ℕ) (given : List Turns) (posted : List ℕ) (pieces : List Piece) : Type 0 where
  pub portion : IsPortion list_bound 1 search path told given posted (record_of list_bound (record { path = path; pieces = pieces }))
  pub held : HoldsWalk log path told given pieces

-- The walk of the root, which is told no key, gives the right child away and posts the key of the left leaf.
abbrev pub HoldsRootWalk : ℕ → Context → TreeOutcome → Type 0
HoldsRootWalk list_bound context other =
    HoldsPortion list_bound (one_split context other) (whole_log context) [] [] (right_child ∷ []) (key left_child ∷ []) (Sat left_child context ∷ Gift right_child ∷ [])

-- The walk of the gift, which is told that key and drops all of it.
abbrev pub HoldsGiftWalk : ℕ → Context → TreeOutcome → Type 0
HoldsGiftWalk list_bound context other =
    HoldsPortion list_bound (one_split context other) (whole_log context) right_child (key left_child ∷ []) [] [] (Cut right_child (key left_child) ∷ [])

-- So the premises under which a portion fits a run can be met.
abbrev pub RunHoldsWalks : Type 0
RunHoldsWalks = (list_bound : ℕ) (context : Context) (other : TreeOutcome) → HoldsRootWalk list_bound context other × HoldsGiftWalk list_bound context other
