use Rattle.std.proofs.Common.{rules, arith}
use Rattle.me_terms.proofs.Comparing.{list_is}
use Rattle.me_terms.proofs.Waiting.{in_work, in_weight, out_work, out_weight}
use Rattle.me_terms.proofs.term.Terms.weight_of_all.Goals as goal

pub terms-smaller-then-is_ok : goal.terms-smaller-then-is_ok
terms-smaller-then-is_ok c = in_work c.terms.later.items c.push.new.self.items (record { terms = c.in-Some.others }) c.terms.terms.now c.as_slice-terms-then-is_ok.result.now c.in-App.f
    (list_is _ _ _ _ _ c.in-App.args c.in-Some.ensures.cases.0 c.in-App.is c.as_slice-terms-then-is_ok.ensures) (search rules)

pub terms-preserved-then-is_ok : goal.terms-preserved-then-is_ok
terms-preserved-then-is_ok c = record {
  counted = in_weight _ c.terms.total c.saturating_add-total.result c.terms.later.items c.push.new.self.items (record { terms = c.in-Some.others }) c.terms.terms.now c.as_slice-terms-then-is_ok.result.now c.in-App.f
      (list_is _ _ _ _ _ c.in-App.args c.in-Some.ensures.cases.0 c.in-App.is c.as_slice-terms-then-is_ok.ensures) (search rules) c.saturating_add-total.ensures c.terms.invariant.counted;
  in_range = omega (arith, c.saturating_add-total.ensures);
}

pub terms-smaller : goal.terms-smaller
terms-smaller c = out_work c.terms.later.items c.pop.new.self.items c.in-Some-pop.rest _ c.in-Some-pop.ensures.items

pub terms-preserved : goal.terms-preserved
terms-preserved c = record {
  counted = out_weight _ c.terms.total c.terms.later.items c.pop.new.self.items c.in-Some-pop.rest c.terms.terms.now (search rules) c.in-Some-pop.ensures.items c.terms.invariant.counted;
  in_range = c.terms.invariant.in_range;
}
