use Rattle.std.proofs.Common.{◌<◌, ◌^◌, List, Option, length, sym, subst, arith}
use Rattle.me_terms.specs.declared.atom.Literal.{Literal}
use Rattle.szs_read.specs.Finds.{FindsLiteral}
use Rattle.szs_read.specs.Rows.{AreRead}
use Rattle.szs_read.proofs.Clauses.{none_found, none_left, one_found, not_found, last_found, next_found, none_in, some_in}
use Rattle.szs_read.proofs.Grown.{read_none, read_both}
use Rattle.szs_read.proofs.Longers.{longer_on, longer_same}
use Rattle.szs_read.proofs.Symbols.{if_some}
use Rattle.szs_read.proofs.literal.read_literals.Goals as goal

pub literals-init : goal.literals-init
literals-init c = record {
  read = subst (λ (v : List Literal). AreRead c.args.signature.now c.args.signature.now c.args.brackets v) (sym c.new-literals.ensures) (read_none c.args.signature.now c.args.brackets);
  longer = longer_same c.args.signature.now (length c.args.tokens.now.bytes) (length c.args.tokens.now.bytes) (omega arith);
  left = λ end ls fs ps rest come left. none_found c.args.signature.now end c.args.brackets fs ps ls c.new-literals.result.items c.args.tokens.now.bytes rest c.new-literals.ensures come left;
}

pub returns-then-is_empty-clause-same : goal.returns-then-is_empty-clause-same
returns-then-is_empty-clause-same c = λ end ls fs ps rest come left.
    let small : length c.literals.tokens.bytes < 2 ^ 32 = omega (arith, c.literals.invariant.longer.few, c.requires.room) in
    let found = none_left c.literals.signature end c.args.brackets fs ps ls c.literals.literals.items c.literals.tokens.bytes c.read_row.new.tokens.bytes rest c.in_ok-row.row c.in_ok-row.stop small
    c.in_ok-row.ensures.literal c.in_ok-row.ensures.falsity (none_in c.in_ok-row.row.items.items c.in_ok-row.row.items.len c.is_empty.result c.is_empty.ensures c.if-is_empty.true (omega (arith, c.in_ok-row.row.items.ok.0))) (c.literals.invariant.left end ls fs ps rest come left) in
    (found.text, found.symbols, found.left)

pub returns-in_default-clause-same : goal.returns-in_default-clause-same
returns-in_default-clause-same c = λ end ls fs ps rest come left.
    let small : length c.literals.tokens.bytes < 2 ^ 32 = omega (arith, c.literals.invariant.longer.few, c.requires.room) in
    absurd (not_found c.literals.signature c.literal_of.new.signature end c.args.brackets fs ps ls c.literals.literals.items c.literals.tokens.bytes c.read_row.new.tokens.bytes rest c.in_ok-row.row c.in_ok-row.stop small
    c.in_ok-row.ensures.literal c.in_ok-row.ensures.falsity (some_in c.in_ok-row.row.items.items c.in_ok-row.row.items.len c.is_empty.result c.is_empty.ensures c.if-is_empty.false (omega (arith, c.in_ok-row.row.items.ok.0)))
    (subst (λ (o : Option Literal). FindsLiteral c.literals.signature c.literal_of.new.signature c.args.brackets c.in_ok-row.row o) c.in_default.is c.in_ok-literal.ensures.same) (c.literals.invariant.left end ls fs ps rest come left))

pub returns-in-Other-clause-read : goal.returns-in-Other-clause-read
returns-in-Other-clause-read c =
    subst (λ (v : List Literal). AreRead c.args.signature.now c.literal_of.new.signature c.args.brackets v) (sym c.in_ok-push.ensures)
    (read_both _ _ _ _ _ _ c.literals.invariant.read (if_some _ _ _ c.in-Some.is c.in_ok-literal.ensures.read))

pub returns-in-Other-clause-same : goal.returns-in-Other-clause-same
returns-in-Other-clause-same c = λ end ls fs ps rest come left.
    let small : length c.literals.tokens.bytes < 2 ^ 32 = omega (arith, c.literals.invariant.longer.few, c.requires.room) in
    let found = last_found c.in_ok-row.stop c.in-Other.is (one_found c.literals.signature c.literal_of.new.signature end c.args.brackets fs ps ls c.literals.literals.items c.push.new.list.items c.literals.tokens.bytes c.read_row.new.tokens.bytes rest c.in_ok-row.row c.in_ok-row.stop c.in-Some.literal small
    c.in_ok-row.ensures.literal c.in_ok-row.ensures.falsity (some_in c.in_ok-row.row.items.items c.in_ok-row.row.items.len c.is_empty.result c.is_empty.ensures c.if-is_empty.false (omega (arith, c.in_ok-row.row.items.ok.0)))
    (subst (λ (o : Option Literal). FindsLiteral c.literals.signature c.literal_of.new.signature c.args.brackets c.in_ok-row.row o) c.in-Some.is c.in_ok-literal.ensures.same) c.in_ok-push.ensures (c.literals.invariant.left end ls fs ps rest come left)) in
    (found.text, found.symbols, found.left)

pub literals-preserved : goal.literals-preserved
literals-preserved c = record {
  read =
      subst (λ (v : List Literal). AreRead c.args.signature.now c.literal_of.new.signature c.args.brackets v) (sym c.in_ok-push.ensures)
      (read_both _ _ _ _ _ _ c.literals.invariant.read (if_some _ _ _ c.in-Some.is c.in_ok-literal.ensures.read));
  longer = longer_on _ _ _ _ _ _ _ _ _ c.literals.invariant.longer c.in_ok-literal.ensures.longer (omega (arith, c.in_ok-row.ensures.count));
  left = λ end ls fs ps rest come left.
      let small : length c.literals.tokens.bytes < 2 ^ 32 = omega (arith, c.literals.invariant.longer.few, c.requires.room) in
      next_found c.in_ok-row.stop c.in-Bar.is (one_found c.literals.signature c.literal_of.new.signature end c.args.brackets fs ps ls c.literals.literals.items c.push.new.list.items c.literals.tokens.bytes c.read_row.new.tokens.bytes rest c.in_ok-row.row c.in_ok-row.stop c.in-Some.literal small
      c.in_ok-row.ensures.literal c.in_ok-row.ensures.falsity (some_in c.in_ok-row.row.items.items c.in_ok-row.row.items.len c.is_empty.result c.is_empty.ensures c.if-is_empty.false (omega (arith, c.in_ok-row.row.items.ok.0)))
      (subst (λ (o : Option Literal). FindsLiteral c.literals.signature c.literal_of.new.signature c.args.brackets c.in_ok-row.row o) c.in-Some.is c.in_ok-literal.ensures.same) c.in_ok-push.ensures (c.literals.invariant.left end ls fs ps rest come left));
}
