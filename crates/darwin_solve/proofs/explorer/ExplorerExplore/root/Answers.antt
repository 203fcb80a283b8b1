use Rattle.std.proofs.Common.{sym, subst, ap}
use Rattle.me_terms.specs.Context.{Context}
use Rattle.me_terms.specs.Grown.{IsGrown, started}
use Rattle.branch_walk.specs.Jobs.{turns_taken}
use Rattle.darwin_solve.proofs.explorer.ExplorerExplore.root.Goals as goal

pub returns : goal.returns
returns g c =
    let problem = c.args.self.now.problem.now in
    let bounds = c.args.self.now.bounds.now in
    let at = c.in_ok-branch.ensures in
    let G : Context → Type 0 = λ x. IsGrown problem bounds x in
    (record { grown = subst G (sym at) started; turns = ap turns_taken at }, c.root-path.ensures)
