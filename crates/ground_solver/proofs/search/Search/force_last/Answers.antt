use Rattle.ground_solver.proofs.Onward.{last_forced}
use Rattle.ground_solver.proofs.search.Search.force_last.Goals as goal

pub returns-clause-onward : goal.returns-clause-onward
returns-clause-onward c = (last_forced c.args.clauses.now c.args.self.now c.force.new.self c.args.by c.args.k c.index-clauses-by.result c.as_slice-literals.result.now _ c.requires.underway c.requires.last c.index-clauses-by.is c.as_slice-literals.ensures.value c.in_ok-force.ensures.underway c.in_ok-force.ensures.less c.in_ok-force.ensures.longer c.in_ok-force.ensures.fewer).0

pub returns-clause-less : goal.returns-clause-less
returns-clause-less c = (last_forced c.args.clauses.now c.args.self.now c.force.new.self c.args.by c.args.k c.index-clauses-by.result c.as_slice-literals.result.now _ c.requires.underway c.requires.last c.index-clauses-by.is c.as_slice-literals.ensures.value c.in_ok-force.ensures.underway c.in_ok-force.ensures.less c.in_ok-force.ensures.longer c.in_ok-force.ensures.fewer).1
