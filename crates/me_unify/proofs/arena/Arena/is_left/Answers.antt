use Rattle.std.proofs.Common.{ap, sym}
use Rattle.me_terms.specs.Remainder.{is_variable}
use Rattle.me_unify.proofs.ReadOff.{last_var, last_app}
use Rattle.me_unify.proofs.arena.Arena.is_left.Goals as goal

pub returns-in-Var : goal.returns-in-Var
returns-in-Var c =
    sym (ap is_variable (last_var c.args.self.now.nodes c.args.self.now.links c.args.x c.find-last.result c.node.result.now c.in-Var.space c.in-Var.var c.requires.arena c.requires.solution c.find-last.ensures.within c.find-last.ensures.free c.find-last.ensures.alike c.node.ensures c.in-Var.is))

pub returns-in-App : goal.returns-in-App
returns-in-App c =
    sym (ap is_variable (last_app c.args.self.now.nodes c.args.self.now.links c.args.x c.find-last.result c.node.result.now c.in-App.f c.in-App.args c.requires.arena c.requires.solution c.find-last.ensures.within c.find-last.ensures.free c.find-last.ensures.alike c.node.ensures c.in-App.is))
