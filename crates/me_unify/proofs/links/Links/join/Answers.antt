use Rattle.std.proofs.Common.{sym, ◌∙◌}
use Rattle.me_unify.proofs.Forest.{directed_either, under_app, app_there, alike_either, alike_back}
use Rattle.me_unify.proofs.links.Links.join.Goals as goal

pub returns-in-Var-clause-same : goal.returns-in-Var-clause-same
returns-in-Var-clause-same c h old e =
    c.link.ensures.same h old (sym (c.find-a.ensures.alike h old) ∙ (e ∙ c.find-b.ensures.alike h old))

pub returns-in-Var-clause-alike : goal.returns-in-Var-clause-alike
returns-in-Var-clause-alike c =
    alike_either _ c.args.self.now c.link.new.self c.args.x c.args.y c.find-a.result c.find-b.result c.link.ensures.more c.find-a.ensures.alike c.find-b.ensures.alike c.link.ensures.alike

pub returns-in_default-clause-directed : goal.returns-in_default-clause-directed
returns-in_default-clause-directed c =
    directed_either _ _ _ _ _ _ _ _ c.requires.forest.paired c.link-in_default.ensures.err c.link-in_default.ensures.froms c.link-in_default.ensures.tos
    (λ m n e. under_app m n c.in_default.field-0 c.in_default.field-1 (app_there c.args.nodes.now c.find-a.result c.index-nodes-a.result n _ _ c.index-nodes-a.is c.in_default.is e)) c.requires.directed

pub returns-in_default-clause-same : goal.returns-in_default-clause-same
returns-in_default-clause-same c h old e =
    c.link-in_default.ensures.same h old (sym (c.find-b.ensures.alike h old) ∙ (sym e ∙ c.find-a.ensures.alike h old))

pub returns-in_default-clause-alike : goal.returns-in_default-clause-alike
returns-in_default-clause-alike c =
    alike_either _ c.args.self.now c.link-in_default.new.self c.args.x c.args.y c.find-a.result c.find-b.result c.link-in_default.ensures.more c.find-a.ensures.alike c.find-b.ensures.alike
    (alike_back _ c.link-in_default.new.self c.find-b.result c.find-a.result c.link-in_default.ensures.alike)
