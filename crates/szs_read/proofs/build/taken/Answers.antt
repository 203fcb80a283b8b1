use Rattle.tptp_cnf.proofs.Stacks.{one_taken, one_dropped}
use Rattle.szs_read.proofs.build.taken.Goals as goal

pub arguments-preserved : goal.arguments-preserved
arguments-preserved c = record {
  arguments = one_taken _ _ _ _ _ _ _ c.arguments-test.true c.arguments.invariant.arguments c.in_ok-move_one.ensures.arguments c.in_ok-move_one.ensures.left;
  left = one_dropped _ _ _ _ _ c.arguments-test.true c.arguments.invariant.left c.in_ok-move_one.ensures.left;
}
