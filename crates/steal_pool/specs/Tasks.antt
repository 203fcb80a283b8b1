-- The works that go round among the workers, and what a worker's hook keeps.
use Rattle.std.specs.Prelude.{◌≡◌, ◌≤◌, ℕ, List, [], length}
use Rattle.std.specs.List.{All}
use Rattle.branch_core.specs.Paths.{Turns}
use Rattle.share_words.specs.Seats.{WorkerSeatValue, WordsValue, Holds}
use Rattle.steal_pool.specs.Ledger.{IsSameSeat}

-- The work is a task at the path.
abbrev pub IsTask : {W : Type 0} → (Turns → W → Type 0) → W → Type 0
IsTask is_task work = (path : Turns) × is_task path work

-- Each work is a task at some path.
abbrev pub AreTasks : {W : Type 0} → (Turns → W → Type 0) → List W → Type 0
AreTasks is_task works = All (IsTask is_task) works

-- The work can be walked at the path, which it names.
abbrev pub IsJobAt : {W : Type 0} → (W → Turns) → (Turns → W → Type 0) → Turns → W → Type 0
IsJobAt path_of is_job path work = is_job path work × (path_of work ≡ path)

-- The works that go round are those that can be walked at the path that they name, where that has few turns.
pub record AreJobs {W : Type 0} (share : ℕ) (path_of : W → Turns) (is_job is_task : Turns → W → Type 0) : Type 0 where
  pub jobs : (path : Turns) (work : W) → is_task path work → IsJobAt path_of is_job path work
  pub short : (path : Turns) (work : W) → is_task path work → length path ≤ share
  pub tasks : (path : Turns) (work : W) → IsJobAt path_of is_job path work → length path ≤ share → is_task path work

-- While a path is walked the seat stands as it was, but for what it gives away, looks at and posts.
pub record StandsAt (was : WorkerSeatValue) (path : Turns) (words : WordsValue) (seat : WorkerSeatValue) (parent : Turns) : Type 0 where
  pub same : IsSameSeat was seat
  pub taken : seat.taken ≡ was.taken
  pub ended : seat.ended ≡ was.ended
  pub raised : seat.raised ≡ seat.offered
  pub of_words : was.words ≡ words.id
  pub parent_is : parent ≡ path
  pub held : Holds was path

-- Some words. A walk's are named by its caller in their place.
abbrev pub some_words : WordsValue
some_words = record { id = record { words = 0; slots = 0; views_name = 0; atom = 0; block = 0; offset = 0; slot_names = [] }; share = 0 }
