-- What a seat is told by its steps.
use Rattle.std.specs.Prelude.{◌≡◌, ℕ, ◌+◌, ◌≤◌, ◌<◌, min, List, [], ◌∷◌, length}
use Rattle.branch_core.specs.Paths.{Turns}
use Rattle.share_words.specs.Counts.{path_count, number_count}
use Rattle.share_words.specs.Rule.{no_key, at_root, IsLive, WereFound}
use Rattle.share_words.specs.Seats.{WorkerSeatValue}

-- The paths that it raised are among those that it gave away, and those that it ended among those that it took, each once.
pub record OwnLists (seat : WorkerSeatValue) : Type 0 where
  pub raised : (path : Turns) → path_count path seat.raised ≤ path_count path seat.offered
  pub offered_once : (path : Turns) → path_count path seat.offered ≤ 1
  pub ended : (path : Turns) → path_count path seat.ended ≤ path_count path seat.taken
  pub taken_once : (path : Turns) → path_count path seat.taken ≤ 1

-- The word is at most each key that it posted, and each of these is a key: so 65,536 shows that it posted none.
abbrev pub IsBelow : ℕ → List ℕ → Type 0
IsBelow word posted = (k : ℕ) → 0 < number_count k posted → (word ≤ k) × (k < no_key)

-- The least of some keys, or the number that says that there is none.
abbrev pub least_of : List ℕ → ℕ
least_of [] = no_key
least_of (key ∷ keys) = min key (least_of keys)

-- What seat 0 learns by a look at the living, where it took in each seat. They are one, and one more for each that it raised, less those that it ended. Each path that it took is the root or one that it gave away, each once. Each key that it looked at was posted. Where none is alive, and it ended only the root and paths that it raised, it ended each of these once.
pub record Learns (seat : WorkerSeatValue) (live : ℕ) : Type 0 where
  pub count : IsLive live (length seat.raised) (length seat.ended)
  pub taken : (path : Turns) → path_count path seat.taken ≤ at_root path + path_count path seat.offered
  pub once : (path : Turns) → at_root path + path_count path seat.offered ≤ 1
  pub looked : WereFound (λ k. number_count k seat.looked) (λ k. number_count k seat.posted)
  pub settled : live ≡ 0 → ((path : Turns) → 0 < path_count path seat.ended → 0 < at_root path + path_count path seat.raised) → (path : Turns) → path_count path seat.ended ≡ at_root path + path_count path seat.raised
