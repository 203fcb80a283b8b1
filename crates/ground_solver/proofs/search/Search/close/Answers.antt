use Rattle.std.proofs.Common.{[], ◌∷◌, ◌++◌, refl, ap, ◌∙◌, arith}
use Rattle.ground_solver.specs.declared.search.Fixed.{Fixed}
use Rattle.ground_solver.proofs.Searching.{ends, work_ends, back_forced, back_refuted, turns_back, work_back_forced, work_back_refuted, work_turned}
use Rattle.ground_solver.proofs.search.Search.close.Goals as goal

pub trail-init : goal.trail-init
trail-init c = record {
  ending = λ clauses n underway refuted. ends clauses n c.args.self.now _ c.args.by refl refl c.in_ok-push.ensures.items underway refuted;
  less = work_ends c.args.self.now.values.items c.args.self.now.trail.items;
}

pub returns-in-Tried-clause-underway : goal.returns-in-Tried-clause-underway
returns-in-Tried-clause-underway c = λ _ clauses n underway refuted.
    let popped = c.in-Some.ensures.items ∙ ap (λ (f : Fixed). c.pop.new.self.items ++ f ∷ []) c.in-Tried.is in
    turns_back clauses n c.trail.self _ c.in-Tried.atom c.in-Tried.from c.pop.new.self.items popped c.in_ok-push-in-Tried.ensures.items c.set.ensures refl (c.trail.invariant.ending clauses n underway refuted)

pub returns-in-Tried-clause-less : goal.returns-in-Tried-clause-less
returns-in-Tried-clause-less c = λ _.
    let popped = c.in-Some.ensures.items ∙ ap (λ (f : Fixed). c.pop.new.self.items ++ f ∷ []) c.in-Tried.is in
    let less = work_turned c.trail.self.values.items c.set.new.values.items c.trail.self.trail.items c.push-in-Tried.new.self.items c.pop.new.self.items c.in-Tried.atom c.in-Tried.from popped c.in_ok-push-in-Tried.ensures.items c.set.ensures in
    omega (arith, less, c.trail.invariant.less)

pub trail-preserved-in-Forced : goal.trail-preserved-in-Forced
trail-preserved-in-Forced c =
    let popped = c.in-Some.ensures.items ∙ ap (λ (f : Fixed). c.pop.new.self.items ++ f ∷ []) c.in-Forced.is in
    let less = work_back_forced c.trail.self.values.items c.set-in-Forced.new.values.items c.trail.self.trail.items c.pop.new.self.items c.in-Forced.atom c.in-Forced.reason popped c.set-in-Forced.ensures in
    record {
      ending = λ clauses n underway refuted. back_forced clauses n c.trail.self _ c.in-Forced.atom c.in-Forced.reason popped c.set-in-Forced.ensures c.in_ok-push-in-Forced.ensures.items (c.trail.invariant.ending clauses n underway refuted);
      less = omega (arith, less, c.trail.invariant.less);
    }

pub trail-preserved : goal.trail-preserved
trail-preserved c =
    let popped = c.in-Some.ensures.items ∙ ap (λ (f : Fixed). c.pop.new.self.items ++ f ∷ []) c.in-Refuted.is in
    let less = work_back_refuted c.trail.self.values.items c.set-in-Refuted.new.values.items c.trail.self.trail.items c.pop.new.self.items c.in-Refuted.atom popped c.set-in-Refuted.ensures in
    record {
      ending = λ clauses n underway refuted. back_refuted clauses n c.trail.self _ c.in-Refuted.atom popped c.set-in-Refuted.ensures refl (c.trail.invariant.ending clauses n underway refuted);
      less = omega (arith, less, c.trail.invariant.less);
    }
