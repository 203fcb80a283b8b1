use Rattle.std.proofs.Common.{◌≡◌, ◌++◌, ◌+◌}
use Rattle.std.specs.List.{fold}
use Rattle.me_terms.specs.Terms.{arguments_of}
use Rattle.me_terms.specs.Hashed.{arguments_fed}
use Rattle.me_terms.specs.Dropping.{later_works}
use Rattle.me_terms.proofs.Waiting.{values, waiting_fed, waiting_work}
use Rattle.me_terms.proofs.term.Terms.feed_all.Given as goal

-- What is left to be fed leads to what all of the terms lead to.
abbrev pub invariant-terms : goal.invariant-terms
invariant-terms g l = fold g.H.Hasher.write l.state (arguments_fed (values l.terms) ++ waiting_fed l.later.items) ≡ fold g.H.Hasher.write l.fn.state (arguments_fed (arguments_of l.self.items))

abbrev pub decreases-terms : goal.decreases-terms
decreases-terms g l = later_works (values l.terms) + waiting_work l.later.items
