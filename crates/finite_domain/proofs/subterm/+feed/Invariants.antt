use Rattle.std.proofs.Common.{◌≡◌, ◌+◌, ◌*◌, drop, map}
use Rattle.std.specs.List.{fold}
use Rattle.me_terms.specs.TermViews.{term_value}
use Rattle.me_terms.specs.Terms.{arguments_of, height, heights}
use Rattle.me_terms.specs.Hashed.{arguments_fed}
use Rattle.finite_domain.proofs.subterm.+feed.Given as goal

abbrev pub decreases-feed : goal.decreases-feed
decreases-feed g l = 2 * height (term_value l.term.now)

abbrev pub decreases-feed_all : goal.decreases-feed_all
decreases-feed_all g l = 2 * heights (arguments_of l.terms.now.items) + 1

-- What is left to be fed leads to what all of the terms lead to.
abbrev pub invariant-feed_all-loop-term : goal.invariant-feed_all-loop-term
invariant-feed_all-loop-term g l =
    fold g.H.Hasher.write l.state (arguments_fed (arguments_of (map term_value (drop l.term-index l.term-items)))) ≡ fold g.H.Hasher.write l.fn.state (arguments_fed (arguments_of l.terms.items))
