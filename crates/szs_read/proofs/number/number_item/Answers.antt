use Rattle.szs_read.specs.RowItems.{item_value}
use Rattle.szs_read.proofs.Naming.{function_node_found}
use Rattle.szs_read.proofs.Symbols.{if_some}
use Rattle.szs_read.proofs.number.number_item.Goals as goal

pub returns-in-Some-2 : goal.returns-in-Some-2
returns-in-Some-2 c = record {
  number = if_some _ _ _ c.in-Some-2.is c.in_ok-f-in_default.ensures.number;
  node = function_node_found c.args.signature.now.functions c.number_function.new.signature.functions (item_value c.args.item.now) c.in_ok-f-in_default.field-0 c.in-Some-2.f c.in_default.not-Variable c.in_ok-f-in_default.ensures.added c.in-Some-2.is;
  predicates = c.in_ok-f-in_default.ensures.predicates;
  longer = c.in_ok-f-in_default.ensures.longer;
}
