use Rattle.std.proofs.Common.{[], refl, sym, subst, ap}
use Rattle.me_terms.specs.Context.{Context}
use Rattle.branch_core.specs.Hooks.{History}
use Rattle.branch_walk.specs.Along.{BranchValue}
use Rattle.branch_walk.specs.Jobs.{IsJob}
use Rattle.branch_walk.specs.Walks.{IsWalked}
use Rattle.branch_walk.proofs.Pushes.{open_loses}
use Rattle.branch_walk.proofs.Subtrees.{ends_lost, extends_none, walk_begins}
use Rattle.branch_walk.proofs.turning.Search.walk.Goals as goal

pub spine-requires-clause-of : goal.spine-requires-clause-of
spine-requires-clause-of g c = record { same_problem = ap (λ (k : BranchValue). k.problem) c.in-Ok.ensures; same_bounds = ap (λ (k : BranchValue). k.bounds) c.in-Ok.ensures }

pub spine-requires-clause-job : goal.spine-requires-clause-job
spine-requires-clause-job g c =
    let J : Context → Type 0 = λ z. IsJob c.args.self.now.problem.now c.args.self.now.bounds.now c.args.path z in
    subst J (sym (ap (λ (k : BranchValue). k.context) c.in-Ok.ensures)) c.requires.job

pub returns-in-Ok-clause-walked : goal.returns-in-Ok-clause-walked
returns-in-Ok-clause-walked g c =
    let first : History = g.H.Hook.history c.args.hook.now in
    let now : History = g.H.Hook.history c.spine.new.hook in
    let W : Context → Type 0 = λ z. IsWalked c.args.self.now.problem.now c.args.self.now.bounds.now c.args.share z c.spine.result first now c.args.tally.now c.spine.new.tally in
    subst W (ap (λ (k : BranchValue). k.context) c.in-Ok.ensures) c.spine.ensures.walked

pub returns-in-Err-clause-walked : goal.returns-in-Err-clause-walked
returns-in-Err-clause-walked g c =
    let problem = c.args.self.now.problem.now in
    let bounds = c.args.self.now.bounds.now in
    let root = g.T.View.context c.args.branch in
    let first : History = g.H.Hook.history c.args.hook.now in
    let w = walk_begins problem bounds root first c.args.tally.now c.requires.job.grown c.requires.open in
    ends_lost problem bounds root first c.args.tally.now root first first c.args.tally.now c.lose.new.self [] [] w (extends_none first) refl (λ leaves node nodes t. c.lose.ensures.tally bounds.list leaves node nodes t) c.args.share

pub lose-requires : goal.lose-requires
lose-requires g c = open_loses c.args.tally.now.last c.requires.open
