use Rattle.ground_solver.proofs.Onward.{found_at}
use Rattle.ground_solver.proofs.solving.unsatisfied.Goals as goal

pub returns-in-Some : goal.returns-in-Some
returns-in-Some c = found_at c.args.clauses.now c.args.search.now.values.items c.deref.result.now c.args.search.now.from c.in-Some.found c.deref.ensures.value c.in-Some.ensures
