use Rattle.std.proofs.Common.{arith}
use Rattle.make_problem.proofs.Plainness.{nothing_added}
use Rattle.make_problem.proofs.problem.add_constant.Goals as goal

pub returns-else-fun_count-eq0 : goal.returns-else-fun_count-eq0
returns-else-fun_count-eq0 c =
    let some = c.if-fun_count-eq0.false in
    nothing_added c.args.signature.now c.requires (λ e. omega (arith, e, some, c.fun_count.ensures))
