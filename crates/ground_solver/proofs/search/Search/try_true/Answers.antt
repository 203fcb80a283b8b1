use Rattle.std.proofs.Common.{true}
use Rattle.ground_solver.proofs.Searching.{work_tried}
use Rattle.ground_solver.proofs.search.Search.try_true.Goals as goal

pub returns-clause-less : goal.returns-clause-less
returns-clause-less c = λ inside unknown.
    work_tried c.args.self.now.values.items c.hold.new.self.values.items c.args.self.now.trail.items c.hold.new.self.trail.items c.args.atom c.args.from true c.in_ok-hold.ensures.values c.in_ok-hold.ensures.trail inside unknown
