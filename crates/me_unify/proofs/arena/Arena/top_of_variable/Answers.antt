use Rattle.std.proofs.Common.{rules}
use Rattle.me_unify.proofs.Differing.{top_of_last}
use Rattle.me_unify.proofs.arena.Arena.top_of_variable.Goals as goal

pub returns-in-App : goal.returns-in-App
returns-in-App c t h fits kept =
    top_of_last c.args.self.now.nodes c.args.self.now.links t h c.args.space c.args.var c.in_ok-x.x c.find-last.result c.in-App.f c.len.result c.node.result.now c.in-App.args
    c.in_ok-x.ensures.some c.find-last.ensures.alike c.node.ensures c.in-App.is (search (rules, c.len.ensures)) fits kept
