use Rattle.ground_solver.proofs.Onward.{opened}
use Rattle.ground_solver.proofs.search.Search.try_at.Goals as goal

pub returns-clause-underway : goal.returns-clause-underway
returns-clause-underway c = (opened c.args.clauses.now c.args.self.now c.try_true.new.self c.args.place c.args.k c.index-clauses-place.result c.as_slice-literals.result.now _ c.requires.underway c.requires.unknown c.index-clauses-place.is c.as_slice-literals.ensures.value c.in_ok-try_true.ensures.underway c.in_ok-try_true.ensures.less).0

pub returns-clause-less : goal.returns-clause-less
returns-clause-less c = (opened c.args.clauses.now c.args.self.now c.try_true.new.self c.args.place c.args.k c.index-clauses-place.result c.as_slice-literals.result.now _ c.requires.underway c.requires.unknown c.index-clauses-place.is c.as_slice-literals.ensures.value c.in_ok-try_true.ensures.underway c.in_ok-try_true.ensures.less).1
