use Rattle.std.proofs.Common.{◌≡◌, ◌+◌, ◌*◌, drop}
use Rattle.me_terms.specs.TermViews.{term_value}
use Rattle.me_terms.specs.Terms.{arguments_of, height, heights}
use Rattle.problem_checks.specs.ValidityTests.{numbered_on}
use Rattle.problem_checks.specs.PlainTests.{numbers_of}
use Rattle.problem_checks.proofs.numbering.+numbered.Given as goal

abbrev pub decreases-next_in_term : goal.decreases-next_in_term
decreases-next_in_term l = 2 * height (term_value l.term.now)

abbrev pub decreases-next_in_terms : goal.decreases-next_in_terms
decreases-next_in_terms l = 2 * heights (arguments_of l.terms.now.items) + 1

-- What is left decides.
abbrev pub invariant-next_in_terms-loop-k : goal.invariant-next_in_terms-loop-k
invariant-next_in_terms-loop-k l =
    numbered_on l.next (numbers_of l.counted (arguments_of l.terms.items)) ≡ numbered_on l.number (numbers_of l.counted (arguments_of (drop l.k l.terms.items)))
