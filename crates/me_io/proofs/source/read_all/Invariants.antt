use Rattle.std.proofs.Common.{◌≡◌, ◌+◌, ◌-◌, ◌≤◌, length, vec_len}
use Rattle.std.specs.Io.KnownBytes.{Consumes}
use Rattle.me_io.proofs.source.read_all.Given as goal

abbrev pub invariant-loop-n : goal.invariant-loop-n
invariant-loop-n g l =
    let left = g.S.Source.left in
    let given = g.S.Source.given in
    let faults = g.S.Source.faults in
    record {
      gone : Consumes (left l.fn.source) (left l.source) l.bytes.items;
      counted : given l.source ≡ given l.fn.source + length l.bytes.items;
      size : length l.bytes.items ≤ 67108864;
      later : faults l.fn.source ≤ faults l.source;
    }

abbrev pub decreases-loop-n : goal.decreases-loop-n
decreases-loop-n g l = 67108865 - vec_len l.bytes
