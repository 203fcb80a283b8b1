use Rattle.std.proofs.Common.{Option, ℕ, List, ap, refl, sym, subst, arith, length}
use Rattle.std.proofs.lemmas.List.{length-append}
use Rattle.std.specs.Prelude.{codes}
use Rattle.szs_read.specs.Finds.{FindsEntry}
use Rattle.szs_read.specs.Reads.{BeginEntries}
use Rattle.szs_read.specs.declared.claim.EntryLine.{EntryLine}
use Rattle.szs_read.proofs.Listed.{no_entries, model_body, entries_on}
use Rattle.szs_read.proofs.Longers.{longer_on, longer_same}
use Rattle.szs_read.proofs.Modelling.{none_so_far, one_so_far, two_passed, stuck_no_line, stuck_no_entry, whole_model, stuck_first, stuck_second}
use Rattle.szs_read.proofs.OneLines.{coded}
use Rattle.szs_read.proofs.Passing.{line_passed, front_parts}
use Rattle.szs_read.proofs.Symbols.{if_some}
use Rattle.szs_read.proofs.read.read_model.Goals as goal

pub returns-then-not-pass_named-clause-stuck : goal.returns-then-not-pass_named-clause-stuck
returns-then-not-pass_named-clause-stuck c =
    stuck_first c.args.signature.now c.args.name.now c.requires.name _ _ (c.pass_named.ensures.unchanged c.if-not-pass_named.true)
    (λ rest e. c.pass_named.ensures.other c.if-not-pass_named.true rest (coded (codes "% SZS output start Model for ") refl) c.requires.name e)

pub returns-in_default-clause-stuck : goal.returns-in_default-clause-stuck
returns-in_default-clause-stuck c =
    stuck_second c.args.signature.now c.args.name.now c.requires.name _ _ _ (c.pass_named.ensures.one c.if-not-pass_named.false (coded (codes "% SZS output start Model for ") refl)) c.in_default.ensures.unchanged c.in_default.ensures.none

pub lines-init : goal.lines-init
lines-init c = record {
  read = subst (λ (v : List EntryLine). BeginEntries c.args.signature.now c.args.signature.now 0 c.read_start.new.lines.rest.now c.read_start.new.lines.rest.now v) (sym c.new-list.ensures) (no_entries c.args.signature.now c.read_start.new.lines.rest.now);
  longer = longer_same c.args.signature.now (length c.read_start.new.lines.rest.now) (length c.read_start.new.lines.rest.now) (omega arith);
  so_far = none_so_far c.args.signature.now c.args.name.now c.in-Some.start _ _ c.requires.name refl;
  fewer = omega arith;
}

pub returns-then-is_named-clause-body : goal.returns-then-is_named-clause-body
returns-then-is_named-clause-body c =
    model_body c.args.signature.now c.lines.signature c.lines.last c.args.lines.now.rest.now c.pass_named.new.self.rest.now c.read_start.new.lines.rest.now c.lines.lines.rest.now c.in-Some-first.line.now c.pass.new.self.rest.now c.args.name.now c.in-Some.start c.lines.list
    (search (c.pass_named.ensures.parts)) c.in-Some.ensures.parts c.lines.invariant.read (c.is_named.ensures.named c.if-is_named.true) c.pass.ensures.parts

pub returns-then-is_named-clause-whole : goal.returns-then-is_named-clause-whole
returns-then-is_named-clause-whole c =
    whole_model c.args.signature.now c.lines.signature c.args.name.now c.requires.name c.in-Some.start c.lines.last _ _ _ _ c.in-Some-first.line.now
    (two_passed c.args.name.now c.in-Some.start _ _ _ (c.pass_named.ensures.one c.if-not-pass_named.false (coded (codes "% SZS output start Model for ") refl)) c.in-Some.ensures.passed)
    c.lines.invariant.so_far c.in-Some-first.ensures.line (c.is_named.ensures.named c.if-is_named.true).text (line_passed _ _ _ c.in-Some-first.ensures.line c.pass.ensures.parts c.pass.ensures.passed)

pub returns-in_err-at-clause-longer : goal.returns-in_err-at-clause-longer
returns-in_err-at-clause-longer c =
    longer_on _ _ _ _ _ _ _ _ _ c.lines.invariant.longer c.read_next_entry.ensures.longer (omega (arith, c.in-Some-first.ensures.some.1, c.pass_named.ensures.shorter, c.read_start.ensures.shorter))

pub returns-in_default-2-clause-longer : goal.returns-in_default-2-clause-longer
returns-in_default-2-clause-longer c =
    longer_on _ _ _ _ _ _ _ _ _ c.lines.invariant.longer c.read_next_entry.ensures.longer (omega (arith, c.in-Some-first.ensures.some.1, c.pass_named.ensures.shorter, c.read_start.ensures.shorter))

pub returns-in_default-2-clause-stuck : goal.returns-in_default-2-clause-stuck
returns-in_default-2-clause-stuck c =
    stuck_no_entry c.args.signature.now c.lines.signature c.read_next_entry.new.signature c.args.name.now c.requires.name c.in-Some.start c.lines.last _ _ _ c.in-Some-first.line.now _ c.lines.list
    (two_passed c.args.name.now c.in-Some.start _ _ _ (c.pass_named.ensures.one c.if-not-pass_named.false (coded (codes "% SZS output start Model for ") refl)) c.in-Some.ensures.passed)
    c.lines.invariant.so_far c.lines.invariant.read c.in-Some-first.ensures.line
    (λ e. c.is_named.ensures.other c.if-is_named.false (record { named = c.requires.name; text = e })) (front_parts _ _ c.in-Some-first.ensures.front)
    (subst (λ (o : Option ℕ). FindsEntry c.lines.signature c.read_next_entry.new.signature c.lines.last c.in-Some-first.line.now o) c.in_default-2.is c.in_ok-at.ensures.same)

pub lines-preserved : goal.lines-preserved
lines-preserved c =
    let parts = ap length c.pass-in-Some-first.ensures.parts in
    let sum = length-append c.in-Some-first.line.now c.pass-in-Some-first.new.self.rest.now in
    record {
      read = entries_on _ _ _ _ _ _ _ c.in-Some-first.line.now _ _ _ c.lines.invariant.read c.pass-in-Some-first.ensures.parts (if_some _ _ _ c.in-Some-2.is c.in_ok-at.ensures.read);
      longer = longer_on _ _ _ _ _ _ _ _ _ c.lines.invariant.longer c.read_next_entry.ensures.longer (omega (arith, parts, sum));
      so_far = one_so_far _ _ _ c.args.name.now c.in-Some.start _ _ _ _ _ c.in-Some-first.line.now c.requires.name c.in-Some-first.ensures.line
          (λ e. c.is_named.ensures.other c.if-is_named.false (record { named = c.requires.name; text = e })) c.lines.invariant.so_far
          (line_passed _ _ _ c.in-Some-first.ensures.line c.pass-in-Some-first.ensures.parts c.pass-in-Some-first.ensures.passed)
          (subst (λ (o : Option ℕ). FindsEntry c.lines.signature c.read_next_entry.new.signature c.lines.last c.in-Some-first.line.now o) c.in-Some-2.is c.in_ok-at.ensures.same);
      fewer = omega (arith, c.lines.invariant.fewer, c.pass-in-Some-first.ensures.passed, parts, sum, c.in-Some-first.ensures.some.0);
    }

pub returns-clause-stuck : goal.returns-clause-stuck
returns-clause-stuck c =
    stuck_no_line c.args.signature.now c.lines.signature c.args.name.now c.requires.name c.in-Some.start c.lines.last _ _ _ c.lines.list
    (two_passed c.args.name.now c.in-Some.start _ _ _ (c.pass_named.ensures.one c.if-not-pass_named.false (coded (codes "% SZS output start Model for ") refl)) c.in-Some.ensures.passed)
    c.lines.invariant.so_far c.lines.invariant.read c.in_default-first.ensures.none
