use Rattle.std.proofs.Common.{◌≡◌, ◌++◌, ◌+◌, map}
use Rattle.me_terms.specs.TermViews.{term_value}
use Rattle.me_terms.specs.Terms.{arguments_of}
use Rattle.me_terms.specs.Substitutions.{apply_term}
use Rattle.me_terms.specs.ListedInstances.{constant}
use Rattle.me_terms.specs.Dropping.{later_works}
use Rattle.me_unify.proofs.Frames.{whole, left_works}
use Rattle.me_unify.proofs.Filling.{opened}
use Rattle.me_unify.proofs.constants.filled_all.Given as goal

-- What is filled, with what is left to be filled, is the whole.
abbrev pub invariant-terms : goal.invariant-terms
invariant-terms l =
    whole (λ x. constant l.c0) (map opened l.above.items) (l.made.items ++ map (apply_term (λ x. constant l.c0)) (map term_value l.rest)) ≡ map (apply_term (λ x. constant l.c0)) l.terms.items

abbrev pub decreases-terms : goal.decreases-terms
decreases-terms l = later_works (arguments_of (map term_value l.rest)) + left_works (map opened l.above.items)
