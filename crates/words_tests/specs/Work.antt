-- What a worker's work leaves of its seat.
use Rattle.std.specs.Prelude.{◌≡◌, ℕ}
use Rattle.share_words.specs.Seats.{WordsValue, WorkerSeatValue}

-- The seat's place among the seats is as before.
pub record IsSameSeat (before later : WorkerSeatValue) : Type 0 where
  pub words : later.words ≡ before.words
  pub number : later.number ≡ before.number
  pub forks : later.forks ≡ before.forks
  pub gathered : later.gathered ≡ before.gathered

-- Paths were given away, each of which is raised; nothing was taken or ended.
pub record HasGiven (before later : WorkerSeatValue) : Type 0 where
  pub same : IsSameSeat before later
  pub raised : later.raised ≡ later.offered
  pub taken : later.taken ≡ before.taken
  pub ended : later.ended ≡ before.ended

-- Each path that was given away is raised, and each that was taken is ended.
pub record HasWorked (before later : WorkerSeatValue) : Type 0 where
  pub same : IsSameSeat before later
  pub raised : later.raised ≡ later.offered
  pub ended : later.ended ≡ later.taken

-- The seat is one of these words, whose share this is; each path that it gave away is raised, and each that it took is ended.
pub record CanWork (ours : WordsValue) (turns : ℕ) (seat : WorkerSeatValue) : Type 0 where
  pub words : seat.words ≡ ours.id
  pub share : ours.share ≡ turns
  pub raised : seat.raised ≡ seat.offered
  pub ended : seat.ended ≡ seat.taken
