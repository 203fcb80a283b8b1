use Rattle.std.proofs.Common.{◌++◌, [], ◌∷◌, length, length-append, sym, subst, ap, ◌∙◌, append_assoc, arith}
use Rattle.me_terms.specs.Values.{SplitLeft, SplitRight}
use Rattle.me_terms.specs.Context.{Context}
use Rattle.me_terms.specs.Grown.{IsGrown, split_entry}
use Rattle.me_terms.specs.Measures.{complement}
use Rattle.branch_core.specs.Hooks.{History}
use Rattle.branch_walk.specs.Turning.{EndsLeft}
use Rattle.branch_walk.specs.Walks.{IsReady}
use Rattle.branch_walk.specs.declared.state.State.{State}
use Rattle.branch_walk.proofs.Alongside.{grown_of, still_of}
use Rattle.branch_walk.proofs.Ends.{longer}
use Rattle.branch_walk.proofs.Pushes.{open_loses}
use Rattle.branch_walk.proofs.Subtrees.{grown_some}
use Rattle.branch_walk.proofs.Spines.{gave_away, cut_right, lost_right, walked_right, ready_open, left_ends, left_is_grown, right_grown}
use Rattle.branch_walk.proofs.turning.Search.after_left.Goals as goal

pub returns-then-away-clause-walked : goal.returns-then-away-clause-walked
returns-then-away-clause-walked g c = λ share node start first hl.
    let problem = c.args.self.now.problem.now in
    let bounds = c.args.self.now.bounds.now in
    let stands_at = c.args.branch.now.context in
    let mid : History = g.H.Hook.history c.args.hook.now in (
      gave_away problem bounds share c.args.away c.args.right c.args.base c.args.state stands_at node start mid first c.args.tally.now hl c.if-away.true c.give.new.self (λ before t. c.give.ensures.tally bounds.list before t),
      λ going.
          let there = hl.stands going in
          (split_entry hl.split.l hl.split.kind SplitLeft ∷ there.0, there.1 ∙ (ap (λ (x : Context). x ++ there.0) hl.split.is ∙ append_assoc node (split_entry hl.split.l hl.split.kind SplitLeft ∷ []) there.0)),
    )

pub returns-then-away-clause-ready : goal.returns-then-away-clause-ready
returns-then-away-clause-ready g c = ready_open c.args.state c.give.new.self c.give.ensures.open

pub turn_right-requires-clause-grown : goal.turn_right-requires-clause-grown
turn_right-requires-clause-grown g c =
    let problem = c.args.self.now.problem.now in
    let bounds = c.args.self.now.bounds.now in
    let stands_at = c.args.branch.now.context in
    let mid : History = g.H.Hook.history c.args.hook.now in
    let k = c.requires.left in
    let hl = k.4 in
    let back_there = c.shrink_to.ensures.shrunk hl.left (hl.stands c.in-Going.is).0 (hl.stands c.in-Going.is).1 hl.at_base in
    let G : Context → Type 0 = λ x. IsGrown problem bounds x in
    let of = still_of problem bounds c.args.branch.now c.shrink_to.new.self c.requires.of c.shrink_to.ensures.same in
    grown_of problem bounds c.shrink_to.new.self of (subst G (sym back_there) (left_is_grown problem bounds k.0 c.args.away c.args.right c.args.base c.args.state stands_at k.1 k.2 mid k.3 c.args.tally.now hl))

pub turn_right-requires-clause-left : goal.turn_right-requires-clause-left
turn_right-requires-clause-left g c =
    let problem = c.args.self.now.problem.now in
    let bounds = c.args.self.now.bounds.now in
    let stands_at = c.args.branch.now.context in
    let mid : History = g.H.Hook.history c.args.hook.now in
    let k = c.requires.left in
    let hl = k.4 in
    let back_there = c.shrink_to.ensures.shrunk hl.left (hl.stands c.in-Going.is).0 (hl.stands c.in-Going.is).1 hl.at_base in
    let G : Context → Type 0 = λ x. EndsLeft x in
    subst G (sym back_there) (left_ends problem bounds k.0 c.args.away c.args.right c.args.base c.args.state stands_at k.1 k.2 mid k.3 c.args.tally.now hl)

pub subtree-requires-clause-grown : goal.subtree-requires-clause-grown
subtree-requires-clause-grown g c =
    let problem = c.args.self.now.problem.now in
    let bounds = c.args.self.now.bounds.now in
    let stands_at = c.args.branch.now.context in
    let mid : History = g.H.Hook.history c.args.hook.now in
    let k = c.requires.left in
    let hl = k.4 in
    let back_there = c.shrink_to.ensures.shrunk hl.left (hl.stands c.in-Going.is).0 (hl.stands c.in-Going.is).1 hl.at_base in
    let turned = c.in-Ok.ensures.turned k.1 (split_entry hl.split.l hl.split.kind SplitLeft) (back_there ∙ hl.split.is) in
    right_grown problem bounds k.0 c.args.away c.args.right c.args.base c.args.state stands_at k.1 k.2 mid k.3 c.args.tally.now hl (c.turn_right.new.self.context) turned

pub returns-in-Ok-clause-walked : goal.returns-in-Ok-clause-walked
returns-in-Ok-clause-walked g c = λ share node start first hl.
    let problem = c.args.self.now.problem.now in
    let bounds = c.args.self.now.bounds.now in
    let stands_at = c.args.branch.now.context in
    let mid : History = g.H.Hook.history c.args.hook.now in
    let now : History = g.H.Hook.history c.subtree.new.hook in
    let back_there = c.shrink_to.ensures.shrunk hl.left (hl.stands c.in-Going.is).0 (hl.stands c.in-Going.is).1 hl.at_base in
    let turned = c.in-Ok.ensures.turned node (split_entry hl.split.l hl.split.kind SplitLeft) (back_there ∙ hl.split.is) in (
      walked_right problem bounds share c.args.away c.args.right c.args.base c.args.state stands_at node start mid first c.args.tally.now hl c.if-away.false c.in-Going.is (c.turn_right.new.self.context) turned c.subtree.result now c.subtree.new.tally (c.subtree.ensures.walked 0),
      λ going. (split_entry (complement hl.split.l) hl.split.kind SplitRight ∷ [], c.subtree.ensures.stands going ∙ turned),
    )

pub returns-in-Err-clause-walked : goal.returns-in-Err-clause-walked
returns-in-Err-clause-walked g c = λ share node start first hl.
    let problem = c.args.self.now.problem.now in
    let bounds = c.args.self.now.bounds.now in
    let stands_at = c.args.branch.now.context in
    let mid : History = g.H.Hook.history c.args.hook.now in (
      lost_right problem bounds share c.args.away c.args.right c.args.base c.args.state stands_at node start mid first c.args.tally.now hl c.if-away.false c.lose.new.self (λ before t. c.lose.ensures.tally bounds.list before c.args.right [] t),
      λ going. cc going,
    )

pub returns-in-Cutting-clause-walked : goal.returns-in-Cutting-clause-walked
returns-in-Cutting-clause-walked g c = λ share node start first hl.
    let problem = c.args.self.now.problem.now in
    let bounds = c.args.self.now.bounds.now in
    let stands_at = c.args.branch.now.context in
    let mid : History = g.H.Hook.history c.args.hook.now in (
      cut_right problem bounds share c.args.away c.args.right c.args.base c.args.state stands_at node start mid first c.args.tally.now hl c.if-away.false c.in-Cutting.key c.in-Cutting.is c.cut.new.self (λ before t. c.cut.ensures.tally bounds.list before c.args.right [] t),
      λ going. cc going,
    )

pub returns-in-Lost-clause-walked : goal.returns-in-Lost-clause-walked
returns-in-Lost-clause-walked g c = λ share node start first hl.
    let problem = c.args.self.now.problem.now in
    let bounds = c.args.self.now.bounds.now in
    let stands_at = c.args.branch.now.context in
    let mid : History = g.H.Hook.history c.args.hook.now in (
      lost_right problem bounds share c.args.away c.args.right c.args.base c.args.state stands_at node start mid first c.args.tally.now hl c.if-away.false c.lose-in-Lost.new.self (λ before t. c.lose-in-Lost.ensures.tally bounds.list before c.args.right [] t),
      λ going. cc going,
    )

pub lose-requires : goal.lose-requires
lose-requires g c =
    let R : State → Type 0 = λ s. IsReady s c.args.tally.now in
    open_loses c.args.tally.now.last (subst R c.in-Going.is c.requires.ready)

pub lose-requires-in-Lost : goal.lose-requires-in-Lost
lose-requires-in-Lost g c =
    let R : State → Type 0 = λ s. IsReady s c.args.tally.now in
    subst R c.in-Lost.is c.requires.ready

pub shrink_to-requires : goal.shrink_to-requires
shrink_to-requires g c =
    let hl = c.requires.left.4 in
    let there = hl.stands c.in-Going.is in
    let many = ap length there.1 in
    let more = length-append hl.left there.0 in
    let at_base = hl.at_base in
    let some = grown_some hl.grown in
    let is_left = ap length hl.split.is in
    let one_more = longer c.requires.left.1 (split_entry hl.split.l hl.split.kind SplitLeft) in
    record { base = (omega (arith, at_base, is_left, one_more), omega (arith, at_base, many, more)) }

pub subtree-requires-clause-of : goal.subtree-requires-clause-of
subtree-requires-clause-of g c =
    let problem = c.args.self.now.problem.now in
    let bounds = c.args.self.now.bounds.now in
    still_of problem bounds c.shrink_to.new.self c.turn_right.new.self (still_of problem bounds c.args.branch.now c.shrink_to.new.self c.requires.of c.shrink_to.ensures.same) c.turn_right.ensures.same

pub returns-in-Err-clause-of : goal.returns-in-Err-clause-of
returns-in-Err-clause-of g c =
    let problem = c.args.self.now.problem.now in
    let bounds = c.args.self.now.bounds.now in
    still_of problem bounds c.shrink_to.new.self c.turn_right.new.self (still_of problem bounds c.args.branch.now c.shrink_to.new.self c.requires.of c.shrink_to.ensures.same) c.turn_right.ensures.same
