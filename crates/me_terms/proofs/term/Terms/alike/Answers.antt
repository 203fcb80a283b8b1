use Rattle.std.proofs.Common.{rules, arith}
use Rattle.std.proofs.lemmas.Grind.{common_steps}
use Rattle.me_terms.proofs.Comparing.{list_is, opened_alike, closed_alike, uneven, opened_left, closed_left}
use Rattle.me_terms.proofs.term.Terms.alike.Goals as goal

pub terms-smaller-in-App-second-2 : goal.terms-smaller-in-App-second-2
terms-smaller-in-App-second-2 c = opened_left c.terms.later.items c.push.new.self.items (record { rest = c.in-Some.rest; others = c.in-Some-split_first.others }) c.terms.mine.now c.as_slice-mine-in-App-App.result.now c.in-App-App.f
    (list_is _ _ _ _ _ c.in-App-App.inner c.in-Some.ensures.cases.0 c.in-App-App.is-0 c.as_slice-mine-in-App-App.ensures) (search rules)

pub terms-preserved-in-App-second-2 : goal.terms-preserved-in-App-second-2
terms-preserved-in-App-second-2 c = opened_alike c.terms.later.items c.push.new.self.items (record { rest = c.in-Some.rest; others = c.in-Some-split_first.others }) c.terms.mine.now c.terms.theirs.now c.as_slice-mine-in-App-App.result.now c.as_slice-theirs-in-App-App.result.now _ c.in-App-App.f c.in-App-App.g
    (list_is _ _ _ _ _ c.in-App-App.inner c.in-Some.ensures.cases.0 c.in-App-App.is-0 c.as_slice-mine-in-App-App.ensures)
    (list_is _ _ _ _ _ c.in-App-App.outer c.in-Some-split_first.ensures.cases.0 c.in-App-App.is-1 c.as_slice-theirs-in-App-App.ensures)
    (grind (arith, common_steps)) (search rules) c.terms.invariant

pub returns-then-not-is_empty : goal.returns-then-not-is_empty
returns-then-not-is_empty c = uneven c.terms.later.items c.terms.mine.now c.terms.theirs.now _ (search rules) (search rules) c.terms.invariant

pub terms-smaller : goal.terms-smaller
terms-smaller c = closed_left c.terms.later.items c.pop.new.self.items c.in-Some-pop.pair _ c.in-Some-pop.ensures.items

pub terms-preserved : goal.terms-preserved
terms-preserved c = closed_alike c.terms.later.items c.pop.new.self.items c.in-Some-pop.pair c.terms.mine.now c.terms.theirs.now _ (search rules) (search rules) c.in-Some-pop.ensures.items c.terms.invariant
