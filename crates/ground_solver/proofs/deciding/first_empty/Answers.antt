use Rattle.std.proofs.Common.{sym, ◌∙◌}
use Rattle.ground_solver.proofs.Numberings.{empty_at, filled_at}
use Rattle.ground_solver.proofs.deciding.first_empty.Goals as goal

pub returns-then-is_empty : goal.returns-then-is_empty
returns-then-is_empty c = empty_at c.args.list.now c.loop-k.k c.index-list-k.result c.loop-k-test.true c.index-list-k.is (sym c.is_empty.ensures ∙ c.if-is_empty.true)

pub loop-k-preserved : goal.loop-k-preserved
loop-k-preserved c = filled_at c.args.list.now c.loop-k.k c.index-list-k.result c.loop-k-test.true c.index-list-k.is (sym c.is_empty.ensures ∙ c.if-is_empty.false) c.loop-k.invariant
