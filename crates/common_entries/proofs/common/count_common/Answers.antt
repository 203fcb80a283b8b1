use Rattle.std.proofs.Common.{◌≡◌, true, arith, sym, subst}
use Rattle.std.specs.Prelude.{slice_get, Option, Some}
use Rattle.me_terms.specs.Values.{EntryValue}
use Rattle.common_entries.proofs.Fronts.{more_by_one, not_both, same_last, within}
use Rattle.common_entries.proofs.common.count_common.Goals as goal

pub returns-then-not-same_entry : goal.returns-then-not-same_entry
returns-then-not-same_entry g c =
    let one = g.V.View.context c.args.one.now in
    let other = g.V.View.context c.args.other.now in
    let first = c.in-Some-Some.first.now in
    let second = c.in-Some-Some.second.now in
    let at : slice_get one c.loop-k.k ≡ Some first = sym c.in-Some-Some.ensures.item in
    let at_other : slice_get other c.loop-k.k ≡ Some second = sym c.in-Some-Some.ensures'.item in
    let inside = within c.loop-k.k one first at in
    let inside_other = within c.loop-k.k other second at_other in
    record {
      within = omega (arith, inside);
      within_other = omega (arith, inside_other);
      same = c.loop-k.invariant;
      no_more = λ lt lt_other same. not_both c.same_entry.result (c.same_entry.ensures.1 (same_last c.loop-k.k one other first second at at_other same)) c.if-not-same_entry.true;
    }

pub loop-k-preserved : goal.loop-k-preserved
loop-k-preserved g c =
    let one = g.V.View.context c.args.one.now in
    let other = g.V.View.context c.args.other.now in
    let first = c.in-Some-Some.first.now in
    let second = c.in-Some-Some.second.now in
    let at : slice_get one c.loop-k.k ≡ Some first = sym c.in-Some-Some.ensures.item in
    let at_other : slice_get other c.loop-k.k ≡ Some second = sym c.in-Some-Some.ensures'.item in
    let yes : c.same_entry.result ≡ true = cc (c.if-not-same_entry.false) in
    let same : first ≡ second = c.same_entry.ensures.0 yes in
    let P : EntryValue → Type 0 = λ z. slice_get other c.loop-k.k ≡ Some z in
    more_by_one c.loop-k.k one other first at (subst P (sym same) at_other) c.loop-k.invariant
