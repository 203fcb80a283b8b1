use Rattle.std.proofs.Common.{ℕ, ◌<◌, length, take, get_or}
use Rattle.me_unify.specs.Linked.{Colouring, coloured}
use Rattle.me_unify.specs.Measured.{AreMeasured, IsHeld}
use Rattle.me_unify.proofs.measure.measure_all.Given as goal

abbrev pub invariant-loop-x : goal.invariant-loop-x
invariant-loop-x l =
    (h : Colouring) → ((i : ℕ) → i < length l.xs → IsHeld h l.measures (get_or l.xs i 0)) → AreMeasured (coloured h (take l.x-index l.xs)) l.all
