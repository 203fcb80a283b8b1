use Rattle.std.proofs.Common.{subst}
use Rattle.me_unify.specs.Equations.{IsSolvable}
use Rattle.me_unify.proofs.Bound.{general_of}
use Rattle.me_unify.proofs.bindings.Bindings.mark.Goals as goal

pub returns-clause-solvable : goal.returns-clause-solvable
returns-clause-solvable c =
    let u = general_of c.self.inside.arena.nodes c.self.inside.arena.links c.self.inside.steps.items c.self.invariant in
    subst IsSolvable c.self.view_is (u.0, u.1.solves)
