use Rattle.std.proofs.Common.{rules, ◌≡◌, List, length, sym, subst}
use Rattle.me_unify.specs.declared.node.Node.{Node}
use Rattle.me_unify.specs.Nodes.{IsFresh}
use Rattle.me_unify.specs.Indexed.{found_in}
use Rattle.me_unify.proofs.Indexed.{push_indexed, same_indexed}
use Rattle.me_unify.proofs.node_list.NodeList.push.Goals as goal

pub invariant_of-self-2 : goal.invariant_of-self-2
invariant_of-self-2 c =
    let at : c.len-x.result ≡ length c.self.inside.items.items = search (rules, c.len-x.ensures, c.reserve.ensures.items) in
    let F : List Node → Type 0 = λ z. IsFresh z c.args.node in
    let old = found_in c.self.inside.variables in
    let new = found_in c.note.new.variables in
    let more = push_indexed c.self.inside.items.items c.args.node c.len-x.result old new c.self.invariant (subst F (sym c.self.view_is) c.requires.fresh) at c.in_ok-note.ensures.ok in
    rw (c.push_reserved.ensures.items, c.reserve.ensures.items) more

pub invariant_of-self-in_err-note : goal.invariant_of-self-in_err-note
invariant_of-self-in_err-note c =
    same_indexed c.self.inside.items.items c.reserve.new.self.items (found_in c.self.inside.variables) (found_in c.note.new.variables) c.reserve.ensures.items c.self.invariant c.in_err-note.ensures.err
