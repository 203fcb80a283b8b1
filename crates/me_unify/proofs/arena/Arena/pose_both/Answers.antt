use Rattle.std.proofs.Common.{◌≡◌, ◌∙◌}
use Rattle.me_unify.proofs.Made.{fits_less, grown_twice, grown_within}
use Rattle.me_unify.proofs.Posed.{posed, apart_by}
use Rattle.me_unify.proofs.Later.{order_grown}
use Rattle.me_unify.proofs.arena.Arena.pose_both.Goals as goal

pub equate-requires-clause-left : goal.equate-requires-clause-left
equate-requires-clause-left c = grown_within c.add_atom.new.self.nodes c.add_atom-2.new.self.nodes c.in_ok-left.left c.add_atom-2.ensures.grown c.in_ok-left.ensures.at

pub returns-then-equal-clause-some : goal.returns-then-equal-clause-some
returns-then-equal-clause-some c =
    let e : c.equate.new.self.nodes ≡ c.add_atom-2.new.self.nodes = c.equate.ensures.nodes in
    rw e (posed c.args.self.now.nodes c.args.self.now.links c.add_atom-2.new.self.nodes c.add_atom-2.new.self.links c.equate.new.self.links c.args.ls c.args.left.now c.args.rs c.args.right.now c.in_ok-left.left c.in_ok-right.right
    (grown_twice c.args.self.now.nodes c.add_atom.new.self.nodes c.add_atom-2.new.self.nodes c.add_atom.ensures.grown c.add_atom-2.ensures.grown)
    (c.add_atom-2.ensures.froms ∙ c.add_atom.ensures.froms) (c.add_atom-2.ensures.tos ∙ c.add_atom.ensures.tos) c.equate.ensures.more
    (rw e at (c.in_ok-equal.ensures.settled c.if-equal.true))
    (grown_within c.add_atom.new.self.nodes c.add_atom-2.new.self.nodes c.in_ok-left.left c.add_atom-2.ensures.grown c.in_ok-left.ensures.at) c.in_ok-right.ensures.at
    (λ t h f. c.in_ok-left.ensures.made t h (fits_less c.add_atom.new.self.nodes c.add_atom-2.new.self.nodes t h c.add_atom-2.ensures.grown f)) (λ t h f. c.in_ok-right.ensures.made t h f)
    (c.in_ok-equal.ensures.yes c.if-equal.true))

pub returns-else-equal-clause-none : goal.returns-else-equal-clause-none
returns-else-equal-clause-none c z =
    apart_by c.args.self.now.nodes c.args.self.now.links c.add_atom-2.new.self.nodes c.add_atom-2.new.self.links c.args.ls c.args.left.now c.args.rs c.args.right.now c.in_ok-left.left c.in_ok-right.right c.requires.arena
    (grown_twice c.args.self.now.nodes c.add_atom.new.self.nodes c.add_atom-2.new.self.nodes c.add_atom.ensures.grown c.add_atom-2.ensures.grown) c.add_atom-2.ensures.arena.fit
    (c.add_atom-2.ensures.froms ∙ c.add_atom.ensures.froms) (c.add_atom-2.ensures.tos ∙ c.add_atom.ensures.tos)
    (λ t h f. c.in_ok-left.ensures.made t h (fits_less c.add_atom.new.self.nodes c.add_atom-2.new.self.nodes t h c.add_atom-2.ensures.grown f)) (λ t h f. c.in_ok-right.ensures.made t h f)
    (c.in_ok-equal.ensures.no c.if-equal.false)

pub equate-requires-clause-order : goal.equate-requires-clause-order
equate-requires-clause-order c =
    order_grown c.args.self.now.nodes c.args.self.now.links c.add_atom-2.new.self.nodes c.add_atom-2.new.self.links c.requires.arena c.requires.solution c.add_atom-2.ensures.arena
    (grown_twice c.args.self.now.nodes c.add_atom.new.self.nodes c.add_atom-2.new.self.nodes c.add_atom.ensures.grown c.add_atom-2.ensures.grown)
    (c.add_atom-2.ensures.froms ∙ c.add_atom.ensures.froms) (c.add_atom-2.ensures.tos ∙ c.add_atom.ensures.tos)
