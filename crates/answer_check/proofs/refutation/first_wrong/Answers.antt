use Rattle.std.proofs.Common.{◌≡◌, length, arith}
use Rattle.answer_check.proofs.RefutationLines.{all_right, one_right, one_wrong}
use Rattle.answer_check.proofs.refutation.first_wrong.Goals as goal

pub returns-then-not-branch : goal.returns-then-not-branch
returns-then-not-branch c =
    one_wrong c.args.problem.now c.args.functions c.args.lines.now c.loop-k.k c.index-lines-k.result c.loop-k-test.true c.index-lines-k.is c.loop-k.invariant c.in_ok-is_own_instance.field-0 c.if-not-branch.true c.in_ok-is_own_instance.ensures

pub loop-k-preserved : goal.loop-k-preserved
loop-k-preserved c =
    one_right c.args.problem.now c.args.functions c.args.lines.now c.loop-k.k c.index-lines-k.result c.loop-k-test.true c.index-lines-k.is c.loop-k.invariant c.in_ok-is_own_instance.field-0 c.if-not-branch.false c.in_ok-is_own_instance.ensures

pub returns : goal.returns
returns c =
    let end : c.loop-k.k ≡ length c.args.lines.now = omega (arith, c.loop-k-test.false, c.loop-k.auto.k-end) in
    all_right c.args.problem.now c.args.functions c.args.lines.now c.loop-k.k end c.loop-k.invariant
