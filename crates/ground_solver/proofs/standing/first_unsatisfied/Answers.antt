use Rattle.std.proofs.Common.{List, subst}
use Rattle.std.specs.List.{Any}
use Rattle.ground_solver.specs.Standings.{IsTrueIn}
use Rattle.ground_solver.specs.declared.signed.Signed.{Signed}
use Rattle.ground_solver.proofs.Scanning.{found_more}
use Rattle.ground_solver.proofs.standing.first_unsatisfied.Goals as goal

pub loop-k-preserved : goal.loop-k-preserved
loop-k-preserved c =
    let here : Any (IsTrueIn c.args.values.now) c.index-clauses-k.result.items = subst (λ (xs : List Signed). Any (IsTrueIn c.args.values.now) xs) c.deref.ensures.value c.in-None.ensures in
    found_more c.args.clauses.now c.args.values.now c.args.from c.loop-k.k c.index-clauses-k.result c.loop-k.invariant c.loop-k-test.true c.index-clauses-k.is here
