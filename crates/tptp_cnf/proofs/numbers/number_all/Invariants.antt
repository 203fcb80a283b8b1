use Rattle.std.proofs.Common.{◌≡◌, ◌<◌, ◌≤◌, ◌+◌, ◌-◌, ◌^◌, ◌++◌, length, map, drop}
use Rattle.tptp_cnf.specs.Rows.{names_of, names_after, numbered as numbers_of}
use Rattle.tptp_cnf.specs.Views.{item_value, names}
use Rattle.tptp_cnf.proofs.numbers.number_all.Given as goal

abbrev pub invariant-items : goal.invariant-items
invariant-items l = record {
  nodes : l.nodes.items ++ numbers_of (names l.symbols (map (λ x. x.now) l.variables.keys)) (map item_value (drop l.item-index l.items)) ≡ numbers_of (names_of l.initial.symbols) (map item_value l.items);
  symbols : length l.symbols.functions + length l.symbols.predicates + length l.items < 2 ^ 32 - 1 + l.item-index;
  variables : length l.variables.keys ≤ l.item-index;
  added : names_after (names l.symbols (map (λ x. x.now) l.variables.keys)) (map item_value (drop l.item-index l.items)) ≡ names_after (names_of l.initial.symbols) (map item_value l.items);
}
