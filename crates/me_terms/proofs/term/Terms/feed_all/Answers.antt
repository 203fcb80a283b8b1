use Rattle.std.proofs.Common.{rules}
use Rattle.me_terms.proofs.Comparing.{list_is}
use Rattle.me_terms.proofs.Waiting.{in_work, in_fed, out_work, out_fed}
use Rattle.me_terms.proofs.term.Terms.feed_all.Goals as goal

pub terms-smaller-then-is_ok : goal.terms-smaller-then-is_ok
terms-smaller-then-is_ok g c = in_work c.terms.later.items c.push.new.self.items (record { terms = c.in-Some.others }) c.terms.terms.now c.as_slice-terms-then-is_ok.result.now c.in-App.f
    (list_is _ _ _ _ _ c.in-App.args c.in-Some.ensures.cases.0 c.in-App.is c.as_slice-terms-then-is_ok.ensures) (search rules)

pub terms-preserved-then-is_ok : goal.terms-preserved-then-is_ok
terms-preserved-then-is_ok g c = in_fed g.H.Hasher.write c.terms.state c.write_u32-in-App.new.self _ c.terms.later.items c.push.new.self.items (record { terms = c.in-Some.others }) c.terms.terms.now c.as_slice-terms-then-is_ok.result.now c.in-App.f
    (list_is _ _ _ _ _ c.in-App.args c.in-Some.ensures.cases.0 c.in-App.is c.as_slice-terms-then-is_ok.ensures) (search rules) c.write_u32-in-App.ensures c.terms.invariant

pub terms-smaller : goal.terms-smaller
terms-smaller g c = out_work c.terms.later.items c.pop.new.self.items c.in-Some-pop.rest _ c.in-Some-pop.ensures.items

pub terms-preserved : goal.terms-preserved
terms-preserved g c = out_fed g.H.Hasher.write c.terms.state _ c.terms.later.items c.pop.new.self.items c.in-Some-pop.rest c.terms.terms.now (search rules) c.in-Some-pop.ensures.items c.terms.invariant
