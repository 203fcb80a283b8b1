use Rattle.std.proofs.Common.{rules, refl, map}
use Rattle.me_terms.specs.TermViews.{term_value}
use Rattle.me_terms.specs.Substitutions.{Substitution}
use Rattle.me_terms.specs.ListedInstances.{constant}
use Rattle.me_unify.proofs.Frames.{written_opened, written_closed, written_all, opened_less, closed_less, map_end, nothing_left}
use Rattle.me_unify.proofs.Filling.{opened, list_is}
use Rattle.me_unify.proofs.constants.filled_all.Goals as goal

pub terms-smaller-in-App : goal.terms-smaller-in-App
terms-smaller-in-App c =
    opened_less (map opened c.terms.above.items) (map opened c.push-in-App.new.self.items) (opened (record { f = c.in-App.f; made = c.terms.made; rest = c.in-Some.others })) (map term_value c.terms.rest.now) (map term_value c.as_slice-rest-in-App.result.now) c.in-App.f
    (list_is c.terms.rest.now c.in-Some.others.now c.as_slice-rest-in-App.result.now c.in-Some.first.now c.in-App.f c.in-App.args c.in-Some.ensures.cases.0 c.in-App.is c.as_slice-rest-in-App.ensures)
    (map_end opened _ _ _ c.in_ok-push-in-App.ensures.items)

pub terms-preserved-in-App : goal.terms-preserved-in-App
terms-preserved-in-App c =
    let s : Substitution = λ x. constant c.args.c0 in
    written_opened s (map opened c.terms.above.items) (map opened c.push-in-App.new.self.items) (opened (record { f = c.in-App.f; made = c.terms.made; rest = c.in-Some.others })) c.in_ok-made-in-App.made.items c.terms.made.items (map term_value c.terms.rest.now) (map term_value c.as_slice-rest-in-App.result.now) _ c.in-App.f
    (list_is c.terms.rest.now c.in-Some.others.now c.as_slice-rest-in-App.result.now c.in-Some.first.now c.in-App.f c.in-App.args c.in-Some.ensures.cases.0 c.in-App.is c.as_slice-rest-in-App.ensures)
    (map_end opened _ _ _ c.in_ok-push-in-App.ensures.items)
    refl refl c.in_ok-made-in-App.ensures c.terms.invariant

pub terms-smaller : goal.terms-smaller
terms-smaller c = closed_less (map opened c.terms.above.items) (map opened c.pop.new.self.items) (opened c.in-Some-pop.frame) _ (map_end opened _ _ _ c.in-Some-pop.ensures.items)

pub terms-preserved : goal.terms-preserved
terms-preserved c =
    let s : Substitution = λ x. constant c.args.c0 in
    written_closed s (map opened c.terms.above.items) (map opened c.pop.new.self.items) (opened c.in-Some-pop.frame) c.terms.made.items c.push-in_default.new.self.items (map term_value c.terms.rest.now) _
    (nothing_left term_value c.terms.rest.now (search rules)) (map_end opened _ _ _ c.in-Some-pop.ensures.items) (search rules) c.terms.invariant

pub returns-in_default-pop : goal.returns-in_default-pop
returns-in_default-pop c =
    let s : Substitution = λ x. constant c.args.c0 in
    written_all s (map opened c.terms.above.items) c.terms.made.items (map term_value c.terms.rest.now) c.args.terms.now.items
    (nothing_left opened c.terms.above.items (search rules)) (nothing_left term_value c.terms.rest.now (search rules)) c.terms.invariant
