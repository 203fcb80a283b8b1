use Rattle.me_io.proofs.Known.{gave_more}
use Rattle.me_io.proofs.source.read_all.Goals as goal

pub returns-then-n-len-clause-front : goal.returns-then-n-len-clause-front
returns-then-n-len-clause-front g c =
    let i = c.loop-n.invariant in
    let e = c.in-Ok.ensures in
    gave_more _ _ _ _ _ _ _ _ _ i.gone e.bytes.0 i.counted e.count e.bound.1

pub returns-in_default-extend_from_slice-clause-front : goal.returns-in_default-extend_from_slice-clause-front
returns-in_default-extend_from_slice-clause-front g c =
    let i = c.loop-n.invariant in
    let e = c.in-Ok.ensures in
    gave_more _ _ _ _ _ _ _ _ _ i.gone e.bytes.0 i.counted e.count e.bound.1
