use Rattle.std.proofs.Common.{sym, subst}
use Rattle.me_terms.specs.Next.{NextValue, IsNext}
use Rattle.next_rule.proofs.Answers.{is_so, not_so}
use Rattle.next_rule.proofs.NextSteps.{bound_met, full_for_split}
use Rattle.next_rule.proofs.search.Search.split_step.Goals as goal

pub returns-in-Some-met : goal.returns-in-Some-met
returns-in-Some-met g c =
    let a = c.args in
    let found = c.requires.found in
    bound_met a.self.now.problem.now a.self.now.bounds.now (g.V.View.context a.self.now.view.now) c.in-Some-met.bound c.requires.not_closed c.requires.no_assert (found.none c.in_default.is) (found.met c.in-Some-met.bound c.in_default.is c.in-Some-met.is)

pub returns-then-has_room : goal.returns-then-has_room
returns-then-has_room g c =
    let a = c.args in
    let least = c.requires.found.best c.in-Some.best c.in-Some.is in
    let P : NextValue → Type 0 = λ z. IsNext a.self.now.problem.now a.self.now.bounds.now (g.V.View.context a.self.now.view.now) z in
    subst P (sym c.into_step.ensures) (c.requires.not_closed, c.requires.no_assert, is_so _ _ c.has_room.ensures c.if-has_room.true, least.0, least.1)

pub returns : goal.returns
returns g c =
    let a = c.args in
    full_for_split a.self.now.problem.now a.self.now.bounds.now (g.V.View.context a.self.now.view.now) c.in-Some.best.literal c.requires.not_closed (not_so _ _ c.has_room.ensures c.if-has_room.false) (c.requires.found.best c.in-Some.best c.in-Some.is).0
