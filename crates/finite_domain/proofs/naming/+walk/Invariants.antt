use Rattle.std.proofs.Common.{◌≡◌, ◌+◌, ◌*◌, drop, map}
use Rattle.me_terms.specs.TermViews.{term_value}
use Rattle.me_terms.specs.Terms.{arguments_of, height, heights}
use Rattle.finite_domain.specs.Names.{first_terms, applied_in_all}
use Rattle.finite_domain.proofs.naming.+walk.Given as goal

abbrev pub decreases-walk : goal.decreases-walk
decreases-walk l = 2 * height (term_value l.term.now)

abbrev pub decreases-walk_all : goal.decreases-walk_all
decreases-walk_all l = 2 * heights (arguments_of (map term_value l.terms.now)) + 1

-- What is found so far leads with the rest to what all lead to.
abbrev pub invariant-walk_all-terms : goal.invariant-walk_all-terms
invariant-walk_all-terms l =
    first_terms l.found.keys (applied_in_all (arguments_of (map term_value (drop l.term-index l.terms)))) ≡ first_terms l.fn.found.keys (applied_in_all (arguments_of (map term_value l.terms)))
