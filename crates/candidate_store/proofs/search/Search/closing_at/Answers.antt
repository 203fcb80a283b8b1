use Rattle.std.proofs.Common.{None, refl, ap}
use Rattle.me_terms.specs.Values.{ClauseValue}
use Rattle.next_rule.proofs.Cursors.{none_at_all, next_copied}
use Rattle.candidate_store.proofs.Unpaired.{close_unpaired}
use Rattle.candidate_store.proofs.Closed.{closing_limits, none_at, one_at}
use Rattle.candidate_store.proofs.search.Search.closing_at.Goals as goal

pub returns-then-not-are_paired : goal.returns-then-not-are_paired
returns-then-not-are_paired g c =
    close_unpaired c.args.self.now.problem.now (g.V.View.context c.args.self.now.view.now) c.args.self.now.pairs.now c.requires.pairs c.len-entries.ensures.is_context c.args.at c.args.pivot _ _ c.of_clause-lists.ensures (c.are_paired.ensures c.if-not-are_paired.true)

pub returns-then-not-branch : goal.returns-then-not-branch
returns-then-not-branch g c =
    let context = g.V.View.context c.args.self.now.view.now in
    let clause = c.clause-clause.result.now in
    none_at c.args.self.now.problem.now context c.args.at c.args.pivot clause c.clause-clause.ensures
    (none_at_all context clause.literals None (closing_limits c.args.at c.args.pivot) c.among-cursor.result _ c.among-cursor.ensures (ap (λ (z : ClauseValue). z.literals) c.clause.view_is) (c.in_ok-advance.ensures.end c.if-not-branch.true))

pub returns : goal.returns
returns g c =
    let context = g.V.View.context c.args.self.now.view.now in
    let clause = c.clause-clause.result.now in
    one_at c.args.self.now.problem.now context c.args.at c.args.pivot clause c.clause-clause.ensures _ refl
    (next_copied context clause.literals None (closing_limits c.args.at c.args.pivot) c.among-cursor.result c.advance.new.self _ c.tuple.result.now.items c.in_ok-tuple.tuple.items c.among-cursor.ensures (ap (λ (z : ClauseValue). z.literals) c.clause.view_is) (c.in_ok-advance.ensures.next c.if-not-branch.false) c.tuple.ensures c.in_ok-tuple.ensures)
