use Rattle.words_tests.proofs.worker.+give_along.Given as goal

abbrev pub decreases-give_along : goal.decreases-give_along
decreases-give_along l = l.room
