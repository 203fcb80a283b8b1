use Rattle.std.proofs.Common.{◌≡◌, slice_get, length, Some, refl, subst, ◌∙◌, arith}
use Rattle.std.proofs.lemmas.List.{length_push}
use Rattle.std.proofs.lemmas.Option.{slice_get_read}
use Rattle.me_terms.specs.Substitutions.{Family}
use Rattle.me_terms.specs.Unifier.{unified}
use Rattle.me_unify.specs.Equations.{Equation, IsMostGeneral}
use Rattle.me_unify.specs.Measured.{IsAtomMeasure}
use Rattle.std.proofs.Common.{List}
use Rattle.joint_unifiers.proofs.Measuring.{none_measured, measured_more}
use Rattle.joint_unifiers.proofs.unifier.measures_of.Goals as goal

pub loop-literal-init : goal.loop-literal-init
loop-literal-init c = record {
  kept = refl;
  each_place = rw c.new-measures.ensures.items refl;
  measured = rw c.new-measures.ensures.items (none_measured _ _);
}

pub loop-literal-preserved : goal.loop-literal-preserved
loop-literal-preserved c =
    let before = c.loop-literal.invariant in
    let item = c.literal-item.result in
    let place : slice_get c.args.literals.now (length c.loop-literal.measures.items) ≡ Some item =
    rw before.each_place (slice_get_read c.args.literals.now (length c.args.literals.now) c.loop-literal.literal-index item refl c.loop-literal-test.true c.literal-item.is) in
    let P : List Equation → Type 0 = λ es. (u : Family) → IsMostGeneral es u → IsAtomMeasure (unified u item).atom c.in_ok-measure.measure in
    record {
      kept = c.measure.ensures.kept ∙ before.kept;
      each_place = rw c.in_ok-push.ensures.items (omega (arith, length_push c.loop-literal.measures.items c.in_ok-measure.measure, before.each_place));
      measured = rw c.in_ok-push.ensures.items (measured_more c.args.bindings.now c.args.literals.now c.loop-literal.measures.items item c.in_ok-measure.measure before.measured place (subst P before.kept c.in_ok-measure.ensures.measure));
    }

pub returns-clause-measured : goal.returns-clause-measured
returns-clause-measured c = record {
  each_place = omega (arith, c.loop-literal.invariant.each_place);
  measured = c.loop-literal.invariant.measured;
}
