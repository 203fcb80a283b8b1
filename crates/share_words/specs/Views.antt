-- What seats know, and how it changes.
use Rattle.std.specs.Prelude.{ℕ, ◌+◌, true, false, [], ◌∷◌, ◌++◌}
use Rattle.branch_core.specs.Paths.{Turns}
use Rattle.share_words.specs.declared.plays.SeatView.{SeatView}

-- A new seat of this number, which has done nothing.
abbrev pub new_view : ℕ → SeatView
new_view n = record { spent = false; number = n; forks = 0; gathered = []; offered = []; raised = []; taken = []; ended = []; posted = []; looked = [] }

-- Seat 0 at the start.
abbrev pub first_view : SeatView
first_view = new_view 0

-- A seat that another one took in.
abbrev pub blank : SeatView
blank = record { spent = true; number = 0; forks = 0; gathered = []; offered = []; raised = []; taken = []; ended = []; posted = []; looked = [] }

abbrev pub with_fork : SeatView → SeatView
with_fork v = record v { forks = v.forks + 1 }

abbrev pub with_offered : SeatView → Turns → SeatView
with_offered v path = record v { offered = v.offered ++ path ∷ [] }

abbrev pub with_raised : SeatView → Turns → SeatView
with_raised v path = record v { raised = v.raised ++ path ∷ [] }

abbrev pub with_taken : SeatView → Turns → SeatView
with_taken v path = record v { taken = v.taken ++ path ∷ [] }

abbrev pub with_ended : SeatView → Turns → SeatView
with_ended v path = record v { ended = v.ended ++ path ∷ [] }

abbrev pub with_posted : SeatView → ℕ → SeatView
with_posted v key = record v { posted = v.posted ++ key ∷ [] }

abbrev pub with_looked : SeatView → ℕ → SeatView
with_looked v key = record v { looked = v.looked ++ key ∷ [] }

-- A seat that took another one in: it has the lists of both, and the other's number among those it took in.
abbrev pub together : SeatView → SeatView → SeatView
together v w = record { spent = false; number = v.number; forks = v.forks; gathered = v.gathered ++ w.number ∷ []; offered = v.offered ++ w.offered; raised = v.raised ++ w.raised; taken = v.taken ++ w.taken; ended = v.ended ++ w.ended; posted = v.posted ++ w.posted; looked = v.looked ++ w.looked }
