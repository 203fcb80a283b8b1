use Rattle.candidate_store.proofs.MetKeys.{first_kept, first_only, first_two}
use Rattle.candidate_store.proofs.split_test.first_found.Goals as goal

pub returns-in_default : goal.returns-in_default
returns-in_default c = rw c.in_default.is (first_kept c.args.best)

pub returns-in_default-best : goal.returns-in_default-best
returns-in_default-best c = rw (c.in-Some.is, c.in_default-best.is) (first_only c.in-Some.found)

pub returns : goal.returns
returns c = rw (c.in-Some.is, c.in-Some-best.is) (first_two c.in-Some-best.best c.in-Some.found c.first_of_two.result c.first_of_two.ensures)
