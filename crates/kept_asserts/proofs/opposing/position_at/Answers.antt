use Rattle.std.proofs.Common.{◌<◌, ◌+◌, length, arith}
use Rattle.kept_asserts.proofs.Opposed.{position_read}
use Rattle.kept_asserts.proofs.opposing.position_at.Goals as goal

pub returns : goal.returns
returns c =
    let s = c.in-Some.skip in
    let within : c.args.place < length c.args.positions.now + 1 = rw c.in-Some.is at c.requires.within in
    rw c.in-Some.is (position_read c.args.positions.now s c.args.place _ (omega arith) within)

pub bounds-positions-place : goal.bounds-positions-place
bounds-positions-place c =
    let within : c.args.place < length c.args.positions.now + 1 = rw c.in-Some.is at c.requires.within in
    omega arith
