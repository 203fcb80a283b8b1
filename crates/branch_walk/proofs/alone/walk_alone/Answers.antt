use Rattle.std.proofs.Common.{refl, sym, subst, ap, ◌∙◌}
use Rattle.me_terms.specs.Context.{Context}
use Rattle.me_terms.specs.Grown.{IsGrown, start, started}
use Rattle.branch_core.specs.Paths.{Turns}
use Rattle.branch_walk.specs.Jobs.{IsJob, turns_taken}
use Rattle.branch_core.specs.Portions.{IsPortion}
use Rattle.branch_walk.proofs.OwnParts.{own_alone}
use Rattle.branch_walk.proofs.PortionEnds.{whole_alone}
use Rattle.branch_walk.proofs.TreesBelow.{tree_of}
use Rattle.branch_walk.proofs.alone.walk_alone.Goals as goal

pub walk_portion-requires-clause-job : goal.walk_portion-requires-clause-job
walk_portion-requires-clause-job c =
    let G : Context → Type 0 = λ x. IsGrown c.args.problem.now c.args.bounds.now x in
    let job : IsJob c.args.problem.now c.args.bounds.now c.root-path.result c.in_ok-branch.branch = record {
      grown = subst G (sym c.in_ok-branch.ensures) started;
      turns = ap turns_taken c.in_ok-branch.ensures ∙ sym c.root-path.ensures;
    } in
    job

pub walk_portion-requires-clause-hook : goal.walk_portion-requires-clause-hook
walk_portion-requires-clause-hook c = record { takes = λ gift work may is_job at. tt }

pub returns : goal.returns
returns c =
    let problem = c.args.problem.now in
    let bounds = c.args.bounds.now in
    let p = c.walk_portion.ensures.portion in
    let t = tree_of problem bounds (start bounds.start) started in
    let I : Turns → Type 0 = λ path. IsPortion bounds.list 0 t.0 path p.told p.given p.posted c.walk_portion.result in
    let portion = subst I c.root-path.ensures (p.portion t.0 t.1) in
    record {
      whole = whole_alone problem bounds c.walk_portion.result p.told p.given p.posted (sym p.extends.told_are) (sym p.extends.given_are) t.0 t.1 portion;
      own = own_alone p.told p.given p.posted (sym p.extends.told_are) (sym p.extends.given_are) (c.walk_portion.ensures.one_part refl refl) portion;
    }
