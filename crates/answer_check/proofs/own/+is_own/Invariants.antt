use Rattle.std.proofs.Common.{◌≡◌, ℕ, ◌+◌, ◌*◌, drop}
use Rattle.me_terms.specs.TermViews.{term_value}
use Rattle.me_terms.specs.Terms.{arguments_of, height, heights}
use Rattle.answer_check.specs.Own.{are_own_terms}
use Rattle.answer_check.proofs.own.+is_own.Given as goal

abbrev pub decreases-is_own_term : goal.decreases-is_own_term
decreases-is_own_term l = 2 * height (term_value l.term.now)

abbrev pub decreases-are_own_terms : goal.decreases-are_own_terms
decreases-are_own_terms l = 2 * heights (arguments_of l.terms.now.items) + 1

-- What is left decides.
abbrev pub invariant-are_own_terms-loop-k : goal.invariant-are_own_terms-loop-k
invariant-are_own_terms-loop-k l =
    are_own_terms l.functions (arguments_of l.terms.items) ≡ are_own_terms l.functions (arguments_of (drop l.k l.terms.items))
