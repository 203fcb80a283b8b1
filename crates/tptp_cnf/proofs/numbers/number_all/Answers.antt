use Rattle.std.proofs.Common.{[], ap, arith, get_or, length, map}
use Rattle.std.proofs.lemmas.List.{length-map}
use Rattle.tptp_tokens.specs.declared.token.TokenKind.TheVariants.{LowerWord}
use Rattle.tptp_cnf.specs.declared.item.Item.{Item}
use Rattle.tptp_cnf.specs.declared.item.Role.TheVariants.{Positive}
use Rattle.tptp_cnf.specs.Rows.{ItemValue, Names}
use Rattle.tptp_cnf.specs.Views.{item_value, names}
use Rattle.tptp_cnf.proofs.Rooms.{symbols_in, symbols_more, variables_more}
use Rattle.tptp_cnf.proofs.Steps.{one_node, one_name}
use Rattle.tptp_cnf.proofs.numbers.number_all.Goals as goal

pub items-init : goal.items-init
items-init c = record {
  nodes = cc;
  symbols = omega (arith, c.requires);
  variables = omega (arith, ap length c.clear.ensures, length-map c.clear.new.variables.keys (λ x. x.now));
  added = cc;
}

pub items-preserved : goal.items-preserved
items-preserved c =
    let none : Item = record { role = Positive; name = record { kind = LowerWord; at = 0; text = record { ref_ptr = (0, 0); now = [] } }; arity = 0 } in
    let before : Names = names c.items.symbols (map (λ x. x.now) c.items.variables.keys) in
    let name : ItemValue = item_value (get_or c.args.items.now c.items.item-index none) in
    record {
      symbols = omega (arith, c.items.invariant.symbols, symbols_more before name, ap symbols_in c.in_ok-number.ensures.added);
      variables = omega (
        arith,
        c.items.invariant.variables,
        variables_more before name,
        ap (λ (x : Names). length x.variables) c.in_ok-number.ensures.added,
        length-map c.items.variables.keys (λ x. x.now),
        length-map c.number.new.variables.keys (λ x. x.now),
      );
      nodes = one_node c.args.items.now c.items.item-index none _ _ _ _ _ _ c.items-test.true c.items.invariant.nodes c.in_ok-push.ensures.items c.in_ok-number.ensures.number c.in_ok-number.ensures.added;
      added = one_name c.args.items.now c.items.item-index none _ _ _ c.items-test.true c.items.invariant.added c.in_ok-number.ensures.added;
    }
