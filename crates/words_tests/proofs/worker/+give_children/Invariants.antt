use Rattle.words_tests.proofs.worker.+give_children.Given as goal

abbrev pub decreases-give_children : goal.decreases-give_children
decreases-give_children l = l.room
