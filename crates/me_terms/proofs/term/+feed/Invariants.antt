use Rattle.std.proofs.Common.{◌≡◌, drop, map}
use Rattle.std.specs.List.{fold}
use Rattle.me_terms.specs.TermViews.{term_value}
use Rattle.me_terms.specs.Terms.{arguments_of}
use Rattle.me_terms.specs.Hashed.{arguments_fed}
use Rattle.me_terms.proofs.term.+feed.Given as goal

-- What is left to be fed leads to what all of the arguments lead to.
abbrev pub invariant-Terms::feed-loop-item : goal.invariant-Terms::feed-loop-item
invariant-Terms::feed-loop-item g l =
    fold g.H.Hasher.write l.state (arguments_fed (arguments_of (map term_value (drop l.item-index l.item-items)))) ≡ fold g.H.Hasher.write l.fn.state (arguments_fed (arguments_of l.self.items))
