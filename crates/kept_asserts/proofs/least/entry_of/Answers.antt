use Rattle.std.proofs.Common.{sym, subst}
use Rattle.me_terms.specs.Values.{EntryValue}
use Rattle.kept_asserts.specs.Held.{IsAssertOf}
use Rattle.kept_asserts.proofs.Ranked.{is_so, not_so, where_none, where_some, ranked, unranked}
use Rattle.kept_asserts.proofs.least.entry_of.Goals as goal

pub returns-in_default-clause-none : goal.returns-in_default-clause-none
returns-in_default-clause-none g c =
    λ e h. where_none c.in_ok-candidate.field-0 _ c.in_default.is c.in_ok-candidate.ensures.none e h.assert

pub returns-then-has_rank-clause-some : goal.returns-then-has_rank-clause-some
returns-then-has_rank-clause-some g c =
    let problem = c.args.problem.now in
    let bounds = c.args.bounds.now in
    let context = g.V.View.context c.args.view.now in
    let assert = where_some c.in_ok-candidate.field-0 c.in-Some.candidate _ c.in-Some.is c.in_ok-candidate.ensures.some in
    let P : EntryValue → Type 0 = λ z. IsAssertOf problem bounds context c.args.key.now z in
    subst P (sym c.into_entry.ensures) (ranked problem bounds context c.args.key.now c.in-Some.candidate assert (is_so _ _ c.has_rank.ensures c.if-has_rank.true))

pub returns-clause-none : goal.returns-clause-none
returns-clause-none g c =
    let problem = c.args.problem.now in
    let bounds = c.args.bounds.now in
    let context = g.V.View.context c.args.view.now in
    let assert = where_some c.in_ok-candidate.field-0 c.in-Some.candidate _ c.in-Some.is c.in_ok-candidate.ensures.some in
    unranked problem bounds context c.args.key.now c.in-Some.candidate assert (not_so _ _ c.has_rank.ensures c.if-has_rank.false)
