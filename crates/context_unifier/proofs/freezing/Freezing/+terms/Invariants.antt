use Rattle.std.proofs.Common.{◌+◌, ◌*◌}
use Rattle.me_terms.specs.Terms.{arguments_of, height, heights}
use Rattle.me_terms.specs.TermViews.{term_value}
use Rattle.context_unifier.specs.Frozen.{StaysFrozen}
use Rattle.context_unifier.proofs.freezing.Freezing.+terms.Given as goal

abbrev pub decreases-freeze_term : goal.decreases-freeze_term
decreases-freeze_term l = 2 * height (term_value l.term.now)

abbrev pub decreases-freeze_terms : goal.decreases-freeze_terms
decreases-freeze_terms l = 2 * heights (arguments_of l.terms.now.items) + 1

abbrev pub invariant-freeze_terms-loop-k : goal.invariant-freeze_terms-loop-k
invariant-freeze_terms-loop-k l = StaysFrozen l.initial.self.bindings l.initial.self.next l.self.bindings l.self.next
