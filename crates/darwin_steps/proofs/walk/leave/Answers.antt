use Rattle.std.proofs.Common.{arith}
use Rattle.std.proofs.lemmas.Bool.{false≢true}
use Rattle.branch_walk.proofs.Subtrees.{grown_some}
use Rattle.darwin_steps.proofs.Walking.{back_grown, back_left, told_done, told_turned, turned_context, turned_grown, turned_some}
use Rattle.darwin_steps.proofs.walk.leave.Goals as goal

pub back-requires : goal.back-requires
back-requires c = record { base = (omega arith, grown_some c.requires.grown) }

pub returns-then-not-back-clause-grown : goal.returns-then-not-back-clause-grown
returns-then-not-back-clause-grown c = λ on. absurd (false≢true on)

pub returns-then-not-back-clause-told : goal.returns-then-not-back-clause-told
returns-then-not-back-clause-told c =
    told_done c.args.search.now.problem.now c.args.context.now c.back.new.branch c.args.out.now.items _ (c.back.ensures.none c.if-not-back.true) c.in_ok-push_key.ensures

pub turn_right-requires-clause-grown : goal.turn_right-requires-clause-grown
turn_right-requires-clause-grown c =
    let s = c.args.search.now in
    back_grown s.problem.now s.bounds.now c.args.context.now c.back.new.branch c.requires.grown (c.back.ensures.left c.if-not-back.false)

pub turn_right-requires-clause-left : goal.turn_right-requires-clause-left
turn_right-requires-clause-left c = back_left c.args.context.now c.back.new.branch (c.back.ensures.left c.if-not-back.false)

pub push_turn-requires : goal.push_turn-requires
push_turn-requires c =
    let b = c.back.ensures.left c.if-not-back.false in
    turned_some c.args.context.now c.back.new.branch _ b (turned_context c.args.context.now c.back.new.branch _ b c.in_ok-turn_right.ensures)

pub returns-clause-grown : goal.returns-clause-grown
returns-clause-grown c =
    let s = c.args.search.now in
    let b = c.back.ensures.left c.if-not-back.false in
    λ _. turned_grown s.problem.now s.bounds.now c.args.context.now c.back.new.branch _ c.requires.grown b (turned_context c.args.context.now c.back.new.branch _ b c.in_ok-turn_right.ensures)

pub returns-clause-told : goal.returns-clause-told
returns-clause-told c =
    let b = c.back.ensures.left c.if-not-back.false in
    let is = turned_context c.args.context.now c.back.new.branch _ b c.in_ok-turn_right.ensures in
    told_turned c.args.search.now.problem.now c.args.context.now c.back.new.branch _ c.args.out.now.items _ _ b is c.in_ok-push_key.ensures (c.in_ok-push_turn.ensures b.before _ is)
