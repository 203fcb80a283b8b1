use Rattle.std.proofs.Common.{◌≡◌, ◌≤◌, length, take}
use Rattle.std.specs.List.{flat_map}
use Rattle.std.specs.Io.KnownBytes.{Appends}
use Rattle.szs_print.proofs.refusal.write_pieces.Given as goal

-- The pieces so far are written and counted.
abbrev pub invariant-loop-piece : goal.invariant-loop-piece
invariant-loop-piece g l =
    let held = g.K.Sink.written in
    let faults = g.K.Sink.faults in
    let done = flat_map (λ p. p.now) (take l.piece-index l.pieces) in
    record {
      counted : l.written ≡ length done;
      appended : Appends (held l.fn.sink) (held l.sink) done;
      later : faults l.fn.sink ≤ faults l.sink;
    }
