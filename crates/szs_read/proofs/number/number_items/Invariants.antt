use Rattle.std.proofs.Common.{◌≡◌, List, map, drop}
use Rattle.me_terms.specs.Values.{SymbolValue}
use Rattle.szs_read.specs.Coming.{AreNodesToCome}
use Rattle.szs_read.specs.Longer.{IsLonger}
use Rattle.szs_read.specs.RowItems.{item_value, node_name}
use Rattle.szs_read.specs.Rows.{AreNumbered}
use Rattle.szs_read.specs.declared.number.Node.{Node}
use Rattle.szs_read.proofs.Renumbering.{NodesLeft}
use Rattle.szs_read.proofs.number.number_items.Given as goal

abbrev pub invariant-items : goal.invariant-items
invariant-items l = record {
  numbers : AreNumbered l.initial.signature.functions l.signature.functions l.nodes.items;
  predicates : l.signature.predicates ≡ l.initial.signature.predicates;
  longer : IsLonger l.initial.signature l.signature l.item-index 0;
  left : (end others : List SymbolValue) (ns : List Node) → AreNodesToCome l.initial.signature.functions end ns others → map item_value l.items ≡ map (node_name end) ns → NodesLeft l.signature.functions end others ns l.nodes.items (map item_value (drop l.item-index l.items));
}
