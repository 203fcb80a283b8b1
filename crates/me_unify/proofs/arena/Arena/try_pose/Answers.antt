use Rattle.me_unify.proofs.Later.{posed_once}
use Rattle.me_unify.proofs.arena.Arena.try_pose.Goals as goal

pub returns-clause-some : goal.returns-clause-some
returns-clause-some c =
    posed_once c.args.self.now.nodes c.args.self.now.links c.add_atom.new.self.nodes c.add_atom.new.self.links c.args.ls c.args.left.now c.args.rs c.args.right.now c.in_ok-x.x c.requires.arena c.requires.solution c.add_atom.ensures.arena
    c.add_atom.ensures.grown c.add_atom.ensures.froms c.add_atom.ensures.tos c.in_ok-x.ensures.at (λ t h f. c.in_ok-x.ensures.made t h f) (c.are_same.ensures c.if-not-are_same.false)
