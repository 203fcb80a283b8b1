use Rattle.std.proofs.Common.{◌≡◌, ◌+◌, ◌*◌, drop}
use Rattle.me_terms.specs.TermViews.{term_value}
use Rattle.me_terms.specs.Terms.{arguments_of, height, heights}
use Rattle.me_terms.specs.Signatures.{are_known}
use Rattle.problem_checks.proofs.validity.+is_known.Given as goal

abbrev pub decreases-is_known_term : goal.decreases-is_known_term
decreases-is_known_term l = 2 * height (term_value l.term.now)

abbrev pub decreases-are_known_terms : goal.decreases-are_known_terms
decreases-are_known_terms l = 2 * heights (arguments_of l.terms.now.items) + 1

-- What is left decides.
abbrev pub invariant-are_known_terms-loop-k : goal.invariant-are_known_terms-loop-k
invariant-are_known_terms-loop-k l = are_known l.signature (arguments_of l.terms.items) ≡ are_known l.signature (arguments_of (drop l.k l.terms.items))
