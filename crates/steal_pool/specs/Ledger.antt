-- What the records of walks and the lists of a seat have to do with each other.
use Rattle.std.specs.Prelude.{◌≡◌, ℕ, Bool, false, List, [], ◌∷◌, ◌++◌, map, reverse, nat_le, if◌then◌else◌}
use Rattle.std.specs.List.{flat_map}
use Rattle.me_terms.specs.Values.{ProblemValue}
use Rattle.me_terms.specs.Grown.{start}
use Rattle.me_terms.specs.declared.bounds.Bounds.{Bounds}
use Rattle.branch_core.specs.Hooks.{History}
use Rattle.branch_core.specs.Paths.{Turns, ProperlyBegins}
use Rattle.branch_core.specs.Parts.{RecordValue}
use Rattle.branch_core.specs.Pieces.{Gift}
use Rattle.branch_core.specs.Portions.{gifts, sat_keys, MayCut, HandsBackPortion}
use Rattle.branch_core.specs.SearchTree.{SearchTree, IsSearchTree}
use Rattle.branch_core.specs.StandsFor.{Account, record_of, StandsFor}
use Rattle.branch_core.specs.Whole.{IsIn}
use Rattle.share_words.specs.Rule.{no_key}
use Rattle.share_words.specs.Seats.{WorkerSeatValue, WordsValue, Holds}

-- The paths of accounts, and of records.
abbrev pub account_paths : List Account → List Turns
account_paths accounts = map (λ (account : Account). account.path) accounts

abbrev pub record_paths : List RecordValue → List Turns
record_paths records = map (λ (record' : RecordValue). record'.path) records

-- The gifts of accounts, in the order in which their walks gave them away.
abbrev pub gifts_given : List Account → List Turns
gifts_given accounts = flat_map (λ (account : Account). reverse (gifts account.pieces)) accounts

-- The keys of the exhausted leaves of accounts, in the order in which their walks posted them.
abbrev pub sats_posted : List Account → List ℕ
sats_posted accounts = flat_map (λ (account : Account). sat_keys account.pieces) accounts

-- The keys among what was looked at.
abbrev pub told_of : List ℕ → List ℕ
told_of [] = []
told_of (found ∷ looked) = if nat_le no_key found then told_of looked else found ∷ told_of looked

-- What passed between a seat's walks and the search around them, as its lists tell.
abbrev pub history_of : WorkerSeatValue → History
history_of seat = record { given = seat.offered; told = told_of seat.looked; posted = seat.posted }

-- Each account stands for its path, with Cuts by keys that were told or by a Sat of its own, and its gifts lie below its path. What was given away are the gifts of the accounts, and what was posted the keys of their Sats, in order.
pub record FitsSeat (search : SearchTree) (accounts : List Account) (offered : List Turns) (posted told : List ℕ) : Type 0 where
  pub stands : (account : Account) → IsIn account accounts → StandsFor (MayCut told account.pieces) search account
  pub extends : (account : Account) (gift : Turns) → IsIn account accounts → IsIn (Gift gift) account.pieces → ProperlyBegins account.path gift
  pub offered_are : offered ≡ gifts_given accounts
  pub posted_are : posted ≡ sats_posted accounts

-- The tree that an explorer walks, and how many turns its gifts may have.
pub record ExplorerTree : Type 0 where
  pub problem : ProblemValue
  pub bounds : Bounds
  pub share : ℕ

abbrev pub explorer_tree : ProblemValue → Bounds → ℕ → ExplorerTree
explorer_tree problem bounds share = record { problem = problem; bounds = bounds; share = share }

-- The records are those of accounts that fit the seat's lists, over the tree.
abbrev pub HasAccounts : ExplorerTree → List RecordValue → List Turns → List ℕ → List ℕ → Type 0
HasAccounts tree records offered posted told =
    (search : SearchTree) → IsSearchTree tree.problem tree.bounds (start tree.bounds.start) search
    → (accounts : List Account) × FitsSeat search accounts offered posted told × (records ≡ map (record_of tree.bounds.list) accounts)

-- The seat took and ended the path of each record, and its lists fit the records.
pub record IsBooked (tree : ExplorerTree) (records : List RecordValue) (seat : WorkerSeatValue) : Type 0 where
  pub taken : seat.taken ≡ record_paths records
  pub ended : seat.ended ≡ record_paths records
  pub accounts : HasAccounts tree records seat.offered seat.posted (told_of seat.looked)

-- The seat is of the words and raised all that it gave away. Where no room was lacking, its lists fit the records.
pub record IsKept (tree : ExplorerTree) (words : WordsValue) (lacks : Bool) (records : List RecordValue) (seat : WorkerSeatValue) : Type 0 where
  pub of_words : seat.words ≡ words.id
  pub raised : seat.raised ≡ seat.offered
  pub booked : lacks ≡ false → IsBooked tree records seat

-- The same while the seat has a path that it took and has not ended.
pub record IsTaking (tree : ExplorerTree) (words : WordsValue) (lacks : Bool) (records : List RecordValue) (path : Turns) (seat : WorkerSeatValue) : Type 0 where
  pub of_words : seat.words ≡ words.id
  pub raised : seat.raised ≡ seat.offered
  pub held : Holds seat path
  pub taken : lacks ≡ false → seat.taken ≡ record_paths records ++ path ∷ []
  pub ended : lacks ≡ false → seat.ended ≡ record_paths records
  pub accounts : lacks ≡ false → HasAccounts tree records seat.offered seat.posted (told_of seat.looked)

-- The new seat is the old one but for its lists.
pub record IsSameSeat (old new : WorkerSeatValue) : Type 0 where
  pub words : new.words ≡ old.words
  pub number : new.number ≡ old.number
  pub forks : new.forks ≡ old.forks
  pub gathered : new.gathered ≡ old.gathered

-- A walk of the path handed the record back, and the old seat became the new one.
pub record IsWalked (tree : ExplorerTree) (path : Turns) (record' : RecordValue) (old new : WorkerSeatValue) : Type 0 where
  pub path_is : record'.path ≡ path
  pub same : IsSameSeat old new
  pub taken : new.taken ≡ old.taken
  pub ended : new.ended ≡ old.ended
  pub raised : new.raised ≡ new.offered
  pub portion : HandsBackPortion tree.problem tree.bounds tree.share path (history_of old) (history_of new) record'
