use Rattle.std.proofs.Common.{sym, subst, ap, ◌∙◌}
use Rattle.me_terms.specs.Context.{Context}
use Rattle.me_terms.specs.Grown.{IsGrown, started}
use Rattle.branch_walk.specs.Jobs.{IsJob, turns_taken}
use Rattle.walk_tests.proofs.walking.walk.Goals as goal

pub walk_portion-requires-clause-job : goal.walk_portion-requires-clause-job
walk_portion-requires-clause-job g c =
    let G : Context → Type 0 = λ x. IsGrown c.args.problem.now c.args.bounds.now x in
    let job : IsJob c.args.problem.now c.args.bounds.now c.root-path.result (g.T.View.context c.args.root) = record {
      grown = subst G (sym c.requires.root) started;
      turns = ap turns_taken c.requires.root ∙ sym c.root-path.ensures;
    } in
    job

pub walk_portion-requires-clause-hook : goal.walk_portion-requires-clause-hook
walk_portion-requires-clause-hook g c = record { takes = λ gift work may is_job at. tt }
