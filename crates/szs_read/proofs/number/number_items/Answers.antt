use Rattle.std.proofs.Common.{◌∙◌, ◌+◌, List, map, drop, refl, sym, subst, arith}
use Rattle.szs_read.specs.RowItems.{NameValue, item_value}
use Rattle.szs_read.specs.Rows.{AreNumbered}
use Rattle.szs_read.specs.declared.number.Node.{Node}
use Rattle.szs_read.proofs.Longers.{longer_on, longer_same}
use Rattle.szs_read.proofs.Naming.{names_at, names_end}
use Rattle.szs_read.proofs.Nodes.{none_numbered, numbered_both}
use Rattle.szs_read.proofs.Renumbering.{NodesLeft, none_yet, one_node, no_node, all_found}
use Rattle.szs_read.proofs.Symbols.{if_some}
use Rattle.szs_read.proofs.number.number_items.Goals as goal

pub items-init : goal.items-init
items-init c = record {
  numbers = subst (λ (v : List Node). AreNumbered c.args.signature.now.functions c.args.signature.now.functions v) (sym c.new-nodes.ensures.items) (none_numbered c.args.signature.now.functions);
  predicates = refl;
  longer = longer_same c.args.signature.now 0 0 (omega arith);
  left = λ end others ns h k. none_yet c.args.signature.now.functions end others ns c.new-nodes.result.items (map item_value c.args.items.now) c.new-nodes.ensures.items h k;
}

pub items-preserved : goal.items-preserved
items-preserved c = record {
  numbers =
      subst (λ (v : List Node). AreNumbered c.args.signature.now.functions c.number_item.new.signature.functions v) (sym c.in_ok-push-in-Some.ensures.items)
      (numbered_both _ _ _ _ _ c.items.invariant.numbers (if_some _ _ _ c.in-Some.is c.in_ok-node.ensures.number));
  predicates = c.in_ok-node.ensures.predicates ∙ c.items.invariant.predicates;
  longer = longer_on _ _ _ _ _ _ _ _ _ c.items.invariant.longer c.in_ok-node.ensures.longer (omega arith);
  left = λ end others ns h k.
      one_node c.items.signature.functions c.number_item.new.signature.functions end others ns c.items.nodes.items c.push.new.self.items _ (map item_value (drop (c.items.item-index + 1) c.args.items.now)) c.in_ok-node.field-0 c.in-Some.node
      (subst (λ (v : List NameValue). NodesLeft c.items.signature.functions end others ns c.items.nodes.items v) (names_at c.args.items.now c.items.item-index _ (omega arith)) (c.items.invariant.left end others ns h k))
      c.in_ok-node.ensures.node c.in-Some.is c.in_ok-push-in-Some.ensures.items;
}

pub returns-in-None-clause-nodes : goal.returns-in-None-clause-nodes
returns-in-None-clause-nodes c = λ end others ns h k.
    absurd (no_node c.items.signature.functions c.number_item.new.signature.functions end others ns c.items.nodes.items _ (map item_value (drop (c.items.item-index + 1) c.args.items.now)) c.in_ok-node.field-0
    (subst (λ (v : List NameValue). NodesLeft c.items.signature.functions end others ns c.items.nodes.items v) (names_at c.args.items.now c.items.item-index _ (omega arith)) (c.items.invariant.left end others ns h k))
    c.in_ok-node.ensures.node c.in-None.is)

pub returns-clause-nodes : goal.returns-clause-nodes
returns-clause-nodes c = λ end others ns h k.
    all_found c.items.signature.functions end others ns c.items.nodes.items
    (subst (λ (v : List NameValue). NodesLeft c.items.signature.functions end others ns c.items.nodes.items v) (names_end c.args.items.now c.items.item-index (omega arith)) (c.items.invariant.left end others ns h k))
