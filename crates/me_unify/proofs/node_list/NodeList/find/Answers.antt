use Rattle.std.proofs.Common.{◌≡◌, List, None, Some, slice_get, subst}
use Rattle.std.specs.Prelude.{IfSome}
use Rattle.me_unify.specs.declared.node.Node.{Node}
use Rattle.me_unify.specs.declared.node.Node.TheVariants.{Var}
use Rattle.me_unify.specs.Nodes.{IsFresh}
use Rattle.me_unify.specs.Indexed.{found_in}
use Rattle.me_unify.proofs.Indexed.{found_some, found_none}
use Rattle.me_unify.proofs.node_list.NodeList.find.Goals as goal

pub returns-clause-some : goal.returns-clause-some
returns-clause-some c =
    let P : List Node → Type 0 = λ z. IfSome c.find.result (λ x. slice_get z x ≡ Some (Var c.args.space c.args.var)) in
    subst P c.self.view_is (found_some c.self.inside.items.items (found_in c.self.inside.variables) c.args.space c.args.var c.find.result c.self.invariant c.find.ensures)

pub returns-clause-none : goal.returns-clause-none
returns-clause-none c =
    let P : List Node → Type 0 = λ z. c.find.result ≡ None → IsFresh z (Var c.args.space c.args.var) in
    subst P c.self.view_is (found_none c.self.inside.items.items (found_in c.self.inside.variables) c.args.space c.args.var c.find.result c.self.invariant c.find.ensures)
