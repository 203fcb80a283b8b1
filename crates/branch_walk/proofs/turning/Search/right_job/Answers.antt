use Rattle.std.proofs.Common.{refl, sym, subst, ap, ◌∙◌}
use Rattle.me_terms.specs.Context.{Context}
use Rattle.me_terms.specs.Values.{SplitLeft}
use Rattle.me_terms.specs.Grown.{IsGrown, split_entry, went_left, went_right}
use Rattle.branch_walk.specs.Jobs.{turns_taken}
use Rattle.branch_walk.proofs.Subtrees.{grown_some}
use Rattle.branch_walk.proofs.TurnsTaken.{turns_right}
use Rattle.branch_walk.proofs.turning.Search.right_job.Goals as goal

pub turn_right-requires-clause-grown : goal.turn_right-requires-clause-grown
turn_right-requires-clause-grown g c =
    let b = c.requires.beside in
    let copied = ap (g.T.View.context) c.in_ok-branch.ensures in
    let G : Context → Type 0 = λ x. IsGrown c.args.self.now.problem.now c.args.self.now.bounds.now x in
    subst G (sym (copied ∙ b.split.is)) (went_left b.grown b.split.next)

pub turn_right-requires-clause-left : goal.turn_right-requires-clause-left
turn_right-requires-clause-left g c =
    let b = c.requires.beside in
    let copied = ap (g.T.View.context) c.in_ok-branch.ensures in
    record { before = b.node; left = split_entry b.split.l b.split.kind SplitLeft; some = grown_some b.grown; is = copied ∙ b.split.is; is_left = refl }

pub returns : goal.returns
returns g c =
    let b = c.requires.beside in
    let problem = c.args.self.now.problem.now in
    let bounds = c.args.self.now.bounds.now in
    let copied = ap (g.T.View.context) c.in_ok-branch.ensures in
    let is = c.in_ok-turn_right.ensures b.node (split_entry b.split.l b.split.kind SplitLeft) (copied ∙ b.split.is) in
    let G : Context → Type 0 = λ x. IsGrown problem bounds x in (
      record {
        grown = subst G (sym is) (went_right b.grown b.split.next);
        turns = ap turns_taken is ∙ (turns_right b.node b.split.l b.split.kind ∙ sym b.right_is);
      },
      refl,
    )
