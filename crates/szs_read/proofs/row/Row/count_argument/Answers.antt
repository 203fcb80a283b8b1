use Rattle.std.proofs.Common.{arith}
use Rattle.szs_read.proofs.Counting.{row_counted, set_counted, out_of_place}
use Rattle.szs_read.proofs.row.Row.count_argument.Goals as goal

pub returns-then-place-len-clause-value : goal.returns-then-place-len-clause-value
returns-then-place-len-clause-value c =
    row_counted c.args.self.now c.in-Some.place.now c.deref.result.now _ c.in-Some.ensures.value c.deref.ensures.value
    (set_counted c.args.self.now.items.items c.in-Some.place.now c.saturating_add.result c.index.result.now c.index_mut.result.now (omega arith) c.index.ensures c.index_mut.ensures.value c.saturating_add.ensures)

pub returns-else-place-len-clause-value : goal.returns-else-place-len-clause-value
returns-else-place-len-clause-value c =
    row_counted c.args.self.now c.in-Some.place.now c.deref.result.now _ c.in-Some.ensures.value c.deref.ensures.value
    (out_of_place c.args.self.now.items.items c.in-Some.place.now (omega arith))
