use Rattle.next_rule.proofs.Answers.{not_so}
use Rattle.candidate_store.proofs.Collected.{keeps_all}
use Rattle.candidate_store.proofs.United.{hidden_none}
use Rattle.candidate_store.proofs.search.Search.unifiers_where_visible.Goals as goal

pub returns-then-not-visible-clause-kept : goal.returns-then-not-visible-clause-kept
returns-then-not-visible-clause-kept g c = keeps_all c.args.keys.items

pub returns-then-not-visible-clause-added : goal.returns-then-not-visible-clause-added
returns-then-not-visible-clause-added g c =
    hidden_none c.args.self.now.problem.now c.args.self.now.bounds.now (g.V.View.context c.args.self.now.view.now) c.args.pivot c.args.keys.items
    (λ e v. not_so _ _ c.visible.ensures c.if-not-visible.true (e, v))
