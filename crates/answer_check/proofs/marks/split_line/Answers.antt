use Rattle.answer_check.proofs.Marking.{cut_first, cut_last}
use Rattle.answer_check.proofs.marks.split_line.Goals as goal

pub returns-then-bytes-k-eq10-clause-cut : goal.returns-then-bytes-k-eq10-clause-cut
returns-then-bytes-k-eq10-clause-cut c =
    cut_first c.args.bytes.now c.split_at.result.0.now c.split_at.result.1.now c.loop-k.k c.loop-k.invariant c.loop-k-test.true c.if-bytes-k-eq10.true c.split_at.ensures.front c.split_at.ensures.back

pub returns-clause-cut : goal.returns-clause-cut
returns-clause-cut c =
    cut_last c.args.bytes.now c.split_at-2.result.0.now c.split_at-2.result.1.now c.loop-k.k c.requires c.loop-k.invariant c.loop-k-test.false c.split_at-2.ensures.front c.split_at-2.ensures.back
