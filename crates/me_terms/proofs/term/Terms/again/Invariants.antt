use Rattle.std.proofs.Common.{◌≡◌, ◌++◌, ◌+◌, map}
use Rattle.me_terms.specs.TermViews.{term_value}
use Rattle.me_terms.specs.Terms.{arguments_of}
use Rattle.me_terms.specs.Dropping.{later_works}
use Rattle.me_terms.proofs.Copying.{whole, left_above}
use Rattle.me_terms.proofs.term.Terms.again.Given as goal

abbrev pub invariant-terms : goal.invariant-terms
invariant-terms l = whole l.above.items (l.made.items ++ map term_value l.rest) ≡ l.self.items

abbrev pub decreases-terms : goal.decreases-terms
decreases-terms l = later_works (arguments_of (map term_value l.rest)) + left_above l.above.items
