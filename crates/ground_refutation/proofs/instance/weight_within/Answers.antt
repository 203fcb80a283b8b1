use Rattle.std.proofs.Common.{List, sym, subst, ◌∙◌, arith}
use Rattle.me_unify.specs.Equations.{Equation, IsMostGeneral}
use Rattle.ground_refutation.proofs.Loops.{counted_more, counted_over}
use Rattle.ground_refutation.proofs.instance.weight_within.Goals as goal

pub returns-then-more-bound-clause-heavy : goal.returns-then-more-bound-clause-heavy
returns-then-more-bound-clause-heavy c none u c0 most =
    let before = c.loop-literal.invariant in
    let P : List Equation → Type 0 = λ qs. IsMostGeneral qs u in
    let measured = c.in_ok-more.ensures.measure u (subst P (sym before.kept) most) in
    counted_over c0 u c.args.literals.now c.loop-literal.literal-index c.literal-item.result c.loop-literal-test.true c.literal-item.is c.args.bound c.loop-literal.weight c.in_ok-more.field-0.weight _
    before.light measured.weight c.if-more-bound.true (before.counted u c0 most)

pub loop-literal-preserved : goal.loop-literal-preserved
loop-literal-preserved c =
    let before = c.loop-literal.invariant in
    let light = before.light in
    let fits = c.if-more-bound.false in
    record {
      kept = c.in_ok-more.ensures.kept ∙ before.kept;
      light = omega (arith, light, fits);
      counted = λ u c' most.
          let P : List Equation → Type 0 = λ qs. IsMostGeneral qs u in
          let measured = c.in_ok-more.ensures.measure u (subst P (sym before.kept) most) in
          counted_more c' u c.args.literals.now c.loop-literal.literal-index c.literal-item.result c.loop-literal-test.true c.literal-item.is c.args.bound c.loop-literal.weight c.in_ok-more.field-0.weight _
          c.requires before.light measured.weight c.if-more-bound.false (before.counted u c' most);
    }
