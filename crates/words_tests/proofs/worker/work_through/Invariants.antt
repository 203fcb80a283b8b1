use Rattle.words_tests.specs.Work.{HasWorked}
use Rattle.words_tests.proofs.worker.work_through.Given as goal

abbrev pub invariant-rounds : goal.invariant-rounds
invariant-rounds l = HasWorked l.fn.seat l.s
