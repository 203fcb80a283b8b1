use Rattle.std.proofs.Common.{arith}
use Rattle.ground_solver.specs.declared.standing.Standing.TheVariants.{Falsified, Forcing, Open}
use Rattle.ground_solver.proofs.Onward.{stands_at}
use Rattle.ground_solver.proofs.solving.fix_at.Goals as goal

pub returns-in-Falsified-clause-turn : goal.returns-in-Falsified-clause-turn
returns-in-Falsified-clause-turn c =
    let at = stands_at c.args.clauses.now c.args.search.now.values.items c.args.place c.args.standing Falsified c.requires.place c.requires.standing c.in-Falsified.is in
    ((at.0, at.1, at.2), omega arith)

pub force_last-requires-clause-last : goal.force_last-requires-clause-last
force_last-requires-clause-last c =
    let at = stands_at c.args.clauses.now c.args.search.now.values.items c.args.place c.args.standing (Forcing c.in-Forcing.k) c.requires.place c.requires.standing c.in-Forcing.is in
    (at.0, at.1, at.2.0, at.2.1)

pub try_at-requires-clause-unknown : goal.try_at-requires-clause-unknown
try_at-requires-clause-unknown c =
    let at = stands_at c.args.clauses.now c.args.search.now.values.items c.args.place c.args.standing (Open c.in-Open.k) c.requires.place c.requires.standing c.in-Open.is in
    (at.0, at.1, at.2)
