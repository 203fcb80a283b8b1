-- The workers of a pool.
use Rattle.std.specs.Prelude.{ℕ, zero, suc, ◌<◌, ◌≤◌, List, [], ◌∷◌, ◌++◌, map}
use Rattle.share_words.specs.Counts.{number_count}
use Rattle.share_words.specs.Seats.{WordsValue}
use Rattle.steal_pool.specs.declared.worker.WorkerState.{WorkerState}
use Rattle.steal_pool.specs.declared.worker.Station.{Station}
use Rattle.steal_pool.specs.Ledger.{ExplorerTree, IsKept}

-- The worker's records fit its seat.
abbrev pub IsKeptState : {W B : Type 0} → ExplorerTree → WordsValue → WorkerState W B → Type 0
IsKeptState tree words state = IsKept tree words state.lacks state.records.items state.seat

-- The seat of the station has no records yet.
abbrev pub IsFresh : {W B : Type 0} → ExplorerTree → WordsValue → Station W B → Type 0
IsFresh tree words station = IsKept tree words station.lacks [] station.seat

-- The numbers from 1 on.
abbrev pub up_to : ℕ → List ℕ
up_to zero = []
up_to (suc n) = up_to n ++ suc n ∷ []

-- Each number of a seat that was made stands among these.
abbrev pub HasNumbers : ℕ → List ℕ → Type 0
HasNumbers forks numbers = (n : ℕ) → 0 < n → n ≤ forks → 0 < number_count n numbers
