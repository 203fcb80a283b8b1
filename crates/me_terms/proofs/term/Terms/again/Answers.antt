use Rattle.std.proofs.Common.{rules, refl, ap, ◌∙◌, map, ◌++◌}
use Rattle.me_terms.specs.TermViews.{term_value}
use Rattle.me_terms.proofs.Copying.{whole, frame_opened, opened_less, frame_closed, closed_less}
use Rattle.me_terms.proofs.term.Terms.again.Goals as goal

pub terms-smaller-in-App : goal.terms-smaller-in-App
terms-smaller-in-App c = opened_less c.terms.above.items c.push-in-App.new.self.items (record { f = c.in-App.f; made = c.terms.made; rest = c.in-Some.others }) c.terms.rest.now c.as_slice-rest-in-App.result.now c.in-Some.first.now c.in-App.f c.in-App.args c.in-Some.ensures.cases.0 c.in-App.is c.as_slice-rest-in-App.ensures c.in_ok-push-in-App.ensures.items

pub terms-preserved-in-App : goal.terms-preserved-in-App
terms-preserved-in-App c =
    ap (λ ms. whole c.push-in-App.new.self.items (ms ++ map term_value c.as_slice-rest-in-App.result.now)) c.in_ok-made-in-App.ensures
    ∙ frame_opened c.terms.above.items c.push-in-App.new.self.items (record { f = c.in-App.f; made = c.terms.made; rest = c.in-Some.others }) c.terms.made.items c.terms.rest.now c.as_slice-rest-in-App.result.now c.in-Some.first.now c.in-App.f c.in-App.args _ c.in-Some.ensures.cases.0 c.in-App.is c.as_slice-rest-in-App.ensures c.in_ok-push-in-App.ensures.items refl refl c.terms.invariant

pub terms-smaller : goal.terms-smaller
terms-smaller c = closed_less c.terms.above.items c.pop.new.self.items c.in-Some-pop.frame _ c.in-Some-pop.ensures.items

pub terms-preserved : goal.terms-preserved
terms-preserved c = frame_closed c.terms.above.items c.pop.new.self.items c.in-Some-pop.frame c.terms.made.items c.push-in_default.new.self.items c.terms.rest.now _ (search rules) c.in-Some-pop.ensures.items (search rules) c.terms.invariant
