use Rattle.std.proofs.Common.{◌≡◌, ◌&&◌, ◌+◌, map}
use Rattle.me_terms.specs.TermViews.{term_value}
use Rattle.me_terms.specs.Terms.{arguments_of}
use Rattle.me_terms.specs.TermEquality.{same_arguments}
use Rattle.me_terms.specs.Dropping.{later_works}
use Rattle.me_terms.proofs.Comparing.{all_alike, left_to_compare}
use Rattle.me_terms.proofs.term.Terms.alike.Given as goal

abbrev pub invariant-terms : goal.invariant-terms
invariant-terms l = (same_arguments (arguments_of (map term_value l.mine)) (arguments_of (map term_value l.theirs)) && all_alike l.later.items) ≡ same_arguments (arguments_of l.self.items) (arguments_of l.other.items)

abbrev pub decreases-terms : goal.decreases-terms
decreases-terms l = later_works (arguments_of (map term_value l.mine)) + left_to_compare l.later.items
