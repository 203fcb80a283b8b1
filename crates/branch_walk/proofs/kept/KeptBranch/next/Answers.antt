use Rattle.me_terms.specs.Values.{ProblemValue, EntryValue}
use Rattle.me_terms.specs.Context.{Context}
use Rattle.me_terms.specs.Next.{IsNext}
use Rattle.me_terms.specs.AnswerViews.{next_value}
use Rattle.me_terms.specs.declared.answer.Next.{Next}
use Rattle.me_terms.specs.declared.bounds.Bounds.{Bounds}
use Rattle.candidate_store.specs.Kept.{StandsFor}
use Rattle.ground_refutation.proofs.Results.{if_ok_map}
use Rattle.next_rule.specs.NextLaws.{IsAddedBy, MayBeAdded}
use Rattle.next_rule.proofs.NextSteps.{may_be_added}
use Rattle.branch_walk.proofs.Alongside.{all_some}
use Rattle.branch_walk.proofs.kept.KeptBranch.next.Goals as goal

pub catch_up-requires-clause-along : goal.catch_up-requires-clause-along
catch_up-requires-clause-along g c = (c.self.inside.search.bounds.now, c.self.invariant.1, c.self.invariant.2)

pub next-requires : goal.next-requires
next-requires g c =
    let s = c.self.inside in
    all_some s.search.problem.now s.search.bounds.now (g.T.View.context s.branch) c.catch_up.new.store (c.in_ok-catch_up.ensures.all s.search.bounds.now c.self.invariant.2)

pub invariant_of-self : goal.invariant_of-self
invariant_of-self g c = (c.self.invariant.0, c.self.invariant.1, c.catch_up.ensures.along c.self.inside.search.bounds.now c.self.invariant.2)

pub invariant_of-self-2 : goal.invariant_of-self-2
invariant_of-self-2 g c = (c.self.invariant.0, c.self.invariant.1, c.catch_up.ensures.along c.self.inside.search.bounds.now c.self.invariant.2)

pub returns-clause-next : goal.returns-clause-next
returns-clause-next g c =
    let s = c.self.inside in
    let problem = s.search.problem.now in
    let bounds = s.search.bounds.now in
    let context = g.T.View.context s.branch in
    let stands = c.in_ok-catch_up.ensures.all bounds c.self.invariant.2 in
    rw (← c.self.view_is) (if_ok_map c.next.result (λ (next : Next). (p : ProblemValue) (b : Bounds) (k : Context) → StandsFor p b k c.catch_up.new.store → IsNext p b k (next_value next)) (λ (next : Next). IsNext problem bounds context (next_value next)) (λ next h. h problem bounds context stands) c.next.ensures)

pub returns-clause-added : goal.returns-clause-added
returns-clause-added g c =
    let s = c.self.inside in
    let problem = s.search.problem.now in
    let bounds = s.search.bounds.now in
    let context = g.T.View.context s.branch in
    let stands = c.in_ok-catch_up.ensures.all bounds c.self.invariant.2 in
    rw (← c.self.view_is) (if_ok_map c.next.result (λ (next : Next). (p : ProblemValue) (b : Bounds) (k : Context) → StandsFor p b k c.catch_up.new.store → IsNext p b k (next_value next)) (λ (next : Next). (e : EntryValue) → IsAddedBy (next_value next) e → MayBeAdded bounds context e) (λ next h e. may_be_added problem bounds context (next_value next) e c.len-entries.ensures.is_context (h problem bounds context stands)) c.next.ensures)
