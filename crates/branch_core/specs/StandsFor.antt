-- Pieces and parts that stand for a path.
use Rattle.branch_core.specs.Pieces.{Piece, Closed, Bounded, Sat, Gift, Cut, NoMemory}
use Rattle.branch_core.specs.Replaced.{Replaced}
use Rattle.branch_core.specs.Joined.{Joined}
use Rattle.std.specs.Prelude.{◌≡◌, ℕ, List, map, Some}
use Rattle.branch_core.specs.Paths.{Turns}
use Rattle.branch_core.specs.Parts.{PartValue, RecordValue, listed}
use Rattle.branch_core.specs.Parts as part
use Rattle.branch_core.specs.SearchTree.{SearchTree, subtree}

-- The part of a piece: a closed one has its list where that is within the list bound.
abbrev pub part_of : ℕ → Piece → PartValue
part_of list_bound (Closed list) = part.Closed (listed list_bound list)
part_of list_bound (Bounded b) = part.Bounded b
part_of list_bound (Sat turns context) = part.Sat context
part_of list_bound (Gift turns) = part.Gift turns
part_of list_bound (Cut turns key) = part.Cut key
part_of list_bound NoMemory = part.NoMemory

-- A path with pieces that say what its record stands for.
pub record Account : Type 0 where
  pub path : Turns
  pub pieces : List Piece

-- The record of an account: each piece becomes its part.
abbrev pub record_of : ℕ → Account → RecordValue
record_of list_bound account = record { path = account.path; parts = map (part_of list_bound) account.pieces }

-- The pieces come from the subtree of the path by the two moves.
pub record StandsFor (MayCut : ℕ → Turns → Type 0) (search : SearchTree) (account : Account) : Type 0 where
  pub own : SearchTree
  pub leaves : List Piece
  pub at_path : subtree search account.path ≡ Some own
  pub replaced : Replaced MayCut account.path own leaves
  pub joined : Joined leaves account.pieces
