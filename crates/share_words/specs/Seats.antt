-- What a contract sees of the words and of a seat.
use Rattle.std.specs.Prelude.{◌≡◌, ℕ, ◌≤◌, ◌<◌, List, [], ◌∷◌, ◌++◌, length}
use Rattle.atomic_table.specs.Seated.{TableId}
use Rattle.branch_core.specs.Paths.{Turns, ProperlyBegins}
use Rattle.branch_core.specs.Core.{EndsRight}
use Rattle.share_words.specs.declared.plays.SeatView.{SeatView}
use Rattle.share_words.specs.Counts.{path_count, number_count}

-- Which words they are, and how many turns a path that is given away may have.
pub record WordsValue : Type 0 where
  pub id : TableId
  pub share : ℕ

-- Of which words a seat is, its number, and what was done with it. Seat 0 has besides how many seats were made from it, and the numbers of those that it took in.
pub record WorkerSeatValue : Type 0 where
  pub words : TableId
  pub number : ℕ
  pub forks : ℕ
  pub gathered : List ℕ
  pub offered : List Turns
  pub raised : List Turns
  pub taken : List Turns
  pub ended : List Turns
  pub posted : List ℕ
  pub looked : List ℕ

-- What is known with a seat of these words.
abbrev pub seat_of : TableId → SeatView → WorkerSeatValue
seat_of words v = record { words = words; number = v.number; forks = v.forks; gathered = v.gathered; offered = v.offered; raised = v.raised; taken = v.taken; ended = v.ended; posted = v.posted; looked = v.looked }

-- The seat took the path and has not ended it.
abbrev pub Holds : WorkerSeatValue → Turns → Type 0
Holds seat path = (0 < path_count path seat.taken) × (path_count path seat.ended ≡ 0)

-- The seat gave the path away and has not raised it.
pub record CanRaise (seat : WorkerSeatValue) (path : Turns) : Type 0 where
  pub offered : 0 < path_count path seat.offered
  pub not_yet : path_count path seat.raised ≡ 0

-- It holds some path.
abbrev pub HoldsSome : WorkerSeatValue → Type 0
HoldsSome seat = (path : Turns) × Holds seat path

-- The path is a right child below the parent, of few turns.
pub record MayGive (share : ℕ) (parent path : Turns) : Type 0 where
  pub extends : ProperlyBegins parent path
  pub to_right : EndsRight path
  pub short : length path ≤ share

-- Seat 0, which took in each seat that was made from it.
pub record HasAll (number forks : ℕ) (gathered : List ℕ) : Type 0 where
  pub first : number ≡ 0
  pub all : (n : ℕ) → 0 < n → n ≤ forks → 0 < number_count n gathered

abbrev pub GatheredAll : WorkerSeatValue → Type 0
GatheredAll seat = HasAll seat.number seat.forks seat.gathered

-- The seat that took the other one in.
abbrev pub with_gathered : WorkerSeatValue → WorkerSeatValue → WorkerSeatValue
with_gathered a b = record { words = a.words; number = a.number; forks = a.forks; gathered = a.gathered ++ b.number ∷ []; offered = a.offered ++ b.offered; raised = a.raised ++ b.raised; taken = a.taken ++ b.taken; ended = a.ended ++ b.ended; posted = a.posted ++ b.posted; looked = a.looked ++ b.looked }
