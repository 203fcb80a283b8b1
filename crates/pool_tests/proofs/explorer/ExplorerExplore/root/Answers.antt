use Rattle.std.proofs.Common.{sym, subst, ap}
use Rattle.me_terms.specs.Context.{Context}
use Rattle.me_terms.specs.Grown.{IsGrown, started}
use Rattle.branch_walk.specs.Jobs.{turns_taken}
use Rattle.pool_tests.proofs.explorer.ExplorerExplore.root.Goals as goal

pub returns : goal.returns
returns c =
    let e = c.args.self.now in
    let G : Context → Type 0 = λ x. IsGrown e.problem.now e.bounds.now x in
    (record { grown = subst G (sym c.in_ok-branch.ensures) started; turns = ap turns_taken c.in_ok-branch.ensures }, c.root-path.ensures)
