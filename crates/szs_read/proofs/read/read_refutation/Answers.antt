use Rattle.std.proofs.Common.{◌<◌, ◌+◌, ◌^◌, List, ap, refl, sym, subst, arith, length}
use Rattle.std.proofs.lemmas.List.{length-append}
use Rattle.std.specs.Prelude.{codes}
use Rattle.szs_read.specs.Reads.{BeginInstances}
use Rattle.szs_read.specs.Values.{InstanceLineValue}
use Rattle.szs_read.proofs.Listed.{no_instances, refuted_body, instances_on}
use Rattle.szs_read.proofs.Longers.{longer_on, longer_same}
use Rattle.szs_read.proofs.OneLines.{coded}
use Rattle.szs_read.proofs.Passing.{line_passed, front_parts}
use Rattle.szs_read.proofs.Refuting.{none_so_far, one_so_far, stuck_no_line, stuck_no_instance, whole_refutation, stuck_first}
use Rattle.szs_read.proofs.read.read_refutation.Goals as goal

pub returns-then-not-pass_named-clause-stuck : goal.returns-then-not-pass_named-clause-stuck
returns-then-not-pass_named-clause-stuck c =
    stuck_first c.args.signature.now c.args.name.now c.requires.name _ _ (c.pass_named.ensures.unchanged c.if-not-pass_named.true)
    (λ rest e. c.pass_named.ensures.other c.if-not-pass_named.true rest (coded (codes "% SZS output start Refutation for ") refl) c.requires.name e)

pub lines-init : goal.lines-init
lines-init c = record {
  read = subst (λ (v : List InstanceLineValue). BeginInstances c.args.signature.now c.args.signature.now c.pass_named.new.self.rest.now c.pass_named.new.self.rest.now v) (sym c.new-list.ensures) (no_instances c.args.signature.now c.pass_named.new.self.rest.now);
  count = omega (arith, ap length c.new-list.ensures);
  longer = longer_same c.args.signature.now (length c.pass_named.new.self.rest.now) (length c.pass_named.new.self.rest.now) (omega arith);
  so_far = none_so_far c.args.signature.now c.args.name.now _ _ _ c.requires.name (omega (arith, ap length c.new-list.ensures)) refl;
  fewer = omega arith;
}

pub returns-then-is_named-clause-body : goal.returns-then-is_named-clause-body
returns-then-is_named-clause-body c =
    refuted_body c.args.signature.now c.lines.signature c.args.lines.now.rest.now c.pass_named.new.self.rest.now c.lines.lines.rest.now c.in-Some.line.now c.pass.new.self.rest.now c.args.name.now c.lines.list
    (search (c.pass_named.ensures.parts)) c.lines.invariant.read (c.is_named.ensures.named c.if-is_named.true) c.pass.ensures.parts

pub returns-then-is_named-clause-whole : goal.returns-then-is_named-clause-whole
returns-then-is_named-clause-whole c =
    let small : length c.lines.list.items + 1 < 2 ^ 64 = omega (arith, c.lines.invariant.count, c.pass_named.ensures.shorter, c.requires.lines) in
    whole_refutation c.args.signature.now c.lines.signature c.args.name.now c.requires.name (length c.lines.list.items + 1) _ _ _ _ c.in-Some.line.now
    (c.pass_named.ensures.one c.if-not-pass_named.false (coded (codes "% SZS output start Refutation for ") refl)) c.lines.invariant.so_far small c.in-Some.ensures.line
    (c.is_named.ensures.named c.if-is_named.true).text (line_passed _ _ _ c.in-Some.ensures.line c.pass.ensures.parts c.pass.ensures.passed)

pub returns-in_err-read_next_instance-clause-longer : goal.returns-in_err-read_next_instance-clause-longer
returns-in_err-read_next_instance-clause-longer c =
    longer_on _ _ _ _ _ _ _ _ _ c.lines.invariant.longer c.read_next_instance.ensures.longer (omega (arith, c.in-Some.ensures.some.1, c.pass_named.ensures.shorter))

pub returns-then-not-branch-clause-longer : goal.returns-then-not-branch-clause-longer
returns-then-not-branch-clause-longer c =
    longer_on _ _ _ _ _ _ _ _ _ c.lines.invariant.longer c.read_next_instance.ensures.longer (omega (arith, c.in-Some.ensures.some.1, c.pass_named.ensures.shorter))

pub returns-then-not-branch-clause-stuck : goal.returns-then-not-branch-clause-stuck
returns-then-not-branch-clause-stuck c =
    let small : length c.lines.list.items + 1 < 2 ^ 64 = omega (arith, c.lines.invariant.count, c.pass_named.ensures.shorter, c.requires.lines) in
    stuck_no_instance c.args.signature.now c.lines.signature c.read_next_instance.new.signature c.args.name.now c.requires.name (length c.lines.list.items + 1) _ _ _ c.in-Some.line.now _ c.lines.list _
    (c.pass_named.ensures.one c.if-not-pass_named.false (coded (codes "% SZS output start Refutation for ") refl)) c.lines.invariant.so_far c.lines.invariant.read small c.in-Some.ensures.line
    (λ e. c.is_named.ensures.other c.if-is_named.false (record { named = c.requires.name; text = e })) (front_parts _ _ c.in-Some.ensures.front) c.in_ok-read_next_instance.ensures.same (λ t. cc (t, c.if-not-branch.true))

pub lines-preserved : goal.lines-preserved
lines-preserved c =
    let parts = ap length c.pass-in-Some.ensures.parts in
    let sum = length-append c.in-Some.line.now c.pass-in-Some.new.self.rest.now in
    let small : length c.lines.list.items + 1 < 2 ^ 64 = omega (arith, c.lines.invariant.count, c.pass_named.ensures.shorter, c.requires.lines) in
    record {
      read = instances_on _ _ _ _ _ c.in-Some.line.now _ _ _ c.lines.invariant.read c.pass-in-Some.ensures.parts (c.in_ok-read_next_instance.ensures.read c.if-not-branch.false);
      count = omega (arith, c.lines.invariant.count, c.in_ok-read_next_instance.ensures.count c.if-not-branch.false, parts, sum, c.in-Some.ensures.some.0);
      longer = longer_on _ _ _ _ _ _ _ _ _ c.lines.invariant.longer c.read_next_instance.ensures.longer (omega (arith, parts, sum));
      so_far = one_so_far _ _ _ c.args.name.now _ _ _ _ _ c.in-Some.line.now _ c.requires.name small c.in-Some.ensures.line
          (λ e. c.is_named.ensures.other c.if-is_named.false (record { named = c.requires.name; text = e }))
          (omega (arith, c.in_ok-read_next_instance.ensures.count c.if-not-branch.false)) c.lines.invariant.so_far
          (line_passed _ _ _ c.in-Some.ensures.line c.pass-in-Some.ensures.parts c.pass-in-Some.ensures.passed) c.in_ok-read_next_instance.ensures.same;
      fewer = omega (arith, c.lines.invariant.fewer, c.pass-in-Some.ensures.passed, parts, sum, c.in-Some.ensures.some.0);
    }

pub returns-clause-stuck : goal.returns-clause-stuck
returns-clause-stuck c =
    stuck_no_line c.args.signature.now c.lines.signature c.args.name.now c.requires.name (length c.lines.list.items + 1) _ _ _ c.lines.list
    (c.pass_named.ensures.one c.if-not-pass_named.false (coded (codes "% SZS output start Refutation for ") refl)) c.lines.invariant.so_far c.lines.invariant.read c.in_default.ensures.none
