use Rattle.std.proofs.Common.{◌≡◌, true, IsTrue, length, slice_get, Some, refl}
use Rattle.std.proofs.lemmas.Option.{slice_get_read}
use Rattle.joint_unifiers.proofs.Adding.{added, refuted, none_solvable}
use Rattle.joint_unifiers.proofs.equations.add_places.Goals as goal

pub loop-place-init : goal.loop-place-init
loop-place-init g c = record {
  solvable = none_solvable _ c.requires.none;
  left = rw c.requires.none refl;
}

pub returns-then-not-branch-clause-exact : goal.returns-then-not-branch-clause-exact
returns-then-not-branch-clause-exact g c =
    let item = c.index-literals-place.result in
    let place : slice_get c.args.literals.now c.loop-place.place ≡ Some item = slice_get_read c.args.literals.now (length c.args.literals.now) c.loop-place.place item refl c.loop-place-test.true c.index-literals-place.is in
    let more = refuted _ c.loop-place.bindings c.loop-place.place (g.V.View.context c.args.view.now) c.args.literals.now _ item c.position_at-position.result place c.position_at-position.ensures c.loop-place.invariant.left in
    (λ t. cc, λ s. let t : IsTrue c.in_ok-add_position.field-0 = c.in_ok-add_position.ensures.exact.1 (more s) in cc (t, c.if-not-branch.true))

pub loop-place-preserved : goal.loop-place-preserved
loop-place-preserved g c =
    let item = c.index-literals-place.result in
    let place : slice_get c.args.literals.now c.loop-place.place ≡ Some item = slice_get_read c.args.literals.now (length c.args.literals.now) c.loop-place.place item refl c.loop-place-test.true c.index-literals-place.is in
    let yes : c.in_ok-add_position.field-0 ≡ true = cc (c.if-not-branch.false) in
    let more = c.in_ok-add_position.ensures.yes yes in
    record {
      solvable = rw more (c.in_ok-add_position.ensures.exact.0 yes);
      left = added _ c.loop-place.bindings _ c.loop-place.place (g.V.View.context c.args.view.now) c.args.literals.now _ item c.position_at-position.result place c.position_at-position.ensures c.loop-place.invariant.left more;
    }
