use Rattle.words_tests.specs.Work.{HasWorked}
use Rattle.words_tests.proofs.worker.go_round.Given as goal

abbrev pub invariant-codes : goal.invariant-codes
invariant-codes l = HasWorked l.initial.s l.s
