use Rattle.std.proofs.Common.{rules, false, refl, ◌∙◌}
use Rattle.me_laws.specs.Pairing.{pair}
use Rattle.me_unify.specs.Left.{term_at}
use Rattle.me_unify.proofs.Measures.{var_measure, constant_measure}
use Rattle.me_unify.proofs.ReadOff.{last_var, last_app}
use Rattle.me_unify.proofs.arena.Arena.flat_variable.Goals as goal

pub returns-in-Var : goal.returns-in-Var
returns-in-Var c u read =
    var_measure (u c.args.space c.args.var) (pair c.in-Var.space c.in-Var.var) (record { weight = 1; depth = 1; ground = false })
    (read.nodes_too c.in-Some.x c.args.space c.args.var c.in-Some.ensures.some
    ∙ last_var c.args.self.now.nodes c.args.self.now.links c.in-Some.x c.find-last.result c.node.result.now c.in-Var.space c.in-Var.var c.requires.arena c.requires.solution c.find-last.ensures.within c.find-last.ensures.free c.find-last.ensures.alike c.node.ensures c.in-Var.is)
    refl refl refl

pub returns-then-is_empty : goal.returns-then-is_empty
returns-then-is_empty c u read =
    constant_measure (u c.args.space c.args.var) c.in-App.f (term_at c.args.self.now.nodes c.args.self.now.links) c.in-App.args.items
    (read.nodes_too c.in-Some.x c.args.space c.args.var c.in-Some.ensures.some
    ∙ last_app c.args.self.now.nodes c.args.self.now.links c.in-Some.x c.find-last.result c.node.result.now c.in-App.f c.in-App.args c.requires.arena c.requires.solution c.find-last.ensures.within c.find-last.ensures.free c.find-last.ensures.alike c.node.ensures c.in-App.is)
    (search (rules, c.is_empty.ensures, c.if-is_empty.true))
