use Rattle.std.proofs.Common.{arith}
use Rattle.words_tests.proofs.Below.{may_give}
use Rattle.words_tests.proofs.worker.+give_children.Goals as goal

pub give-requires-clause-path : goal.give-requires-clause-path
give-requires-clause-path t c = may_give _ _ _ _ _ c.requires.below c.requires.room (omega (arith, c.if-room-eq0.false)) c.in-Some.ensures
