-- What the pool hands back.
use Rattle.std.specs.Prelude.{◌≡◌, ◌≤◌, ℕ, List, map}
use Rattle.me_terms.specs.Values.{ProblemValue}
use Rattle.me_terms.specs.Grown.{start}
use Rattle.me_terms.specs.declared.bounds.Bounds.{Bounds}
use Rattle.branch_core.specs.Paths.{Turns}
use Rattle.branch_core.specs.Parts.{RecordValue}
use Rattle.branch_core.specs.Pieces.{Cut}
use Rattle.branch_core.specs.SearchTree.{SearchTree, IsSearchTree}
use Rattle.branch_core.specs.StandsFor.{Account, record_of}
use Rattle.branch_core.specs.Whole.{IsIn, AreWhole}
use Rattle.share_words.specs.Counts.{path_count}
use Rattle.share_words.specs.Seats.{WorkerSeatValue}
use Rattle.steal_pool.specs.Ledger.{account_paths, gifts_given, sats_posted}

-- The seat took and ended the path of each account, once, and no other. It gave away and raised each gift, once, and no other. It posted the key of each Sat's leaf, and no other, so also that of each Cut.
pub record FitTheSeat (accounts : List Account) (seat : WorkerSeatValue) : Type 0 where
  pub taken : seat.taken ≡ account_paths accounts
  pub ended : seat.ended ≡ account_paths accounts
  pub taken_once : (path : Turns) → path_count path seat.taken ≤ 1
  pub offered : seat.offered ≡ gifts_given accounts
  pub raised : seat.raised ≡ gifts_given accounts
  pub offered_once : (gift : Turns) → path_count gift seat.offered ≤ 1
  pub posted : seat.posted ≡ sats_posted accounts
  pub cuts_posted : (account : Account) (turns : Turns) (cut_key : ℕ) → IsIn account accounts → IsIn (Cut turns cut_key) account.pieces → IsIn cut_key seat.posted

-- The records are those of whole accounts over the tree of the problem within the bounds, which fit the seat's lists.
pub record AreExplored (problem : ProblemValue) (bounds : Bounds) (records : List RecordValue) (seat : WorkerSeatValue) : Type 0 where
  pub search : SearchTree
  pub tree : IsSearchTree problem bounds (start bounds.start) search
  pub accounts : List Account
  pub whole : AreWhole search accounts
  pub records_are : records ≡ map (record_of bounds.list) accounts
  pub fit : FitTheSeat accounts seat
