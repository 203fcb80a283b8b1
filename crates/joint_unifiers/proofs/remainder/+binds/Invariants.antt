use Rattle.std.proofs.Common.{◌≡◌, ℕ, ◌+◌, ◌*◌, not, drop}
use Rattle.me_terms.specs.TermViews.{term_value}
use Rattle.me_terms.specs.Terms.{arguments_of, height, heights}
use Rattle.me_terms.specs.Substitutions.{Family}
use Rattle.me_terms.specs.Remainder.{is_variable}
use Rattle.me_unify.specs.Equations.{IsMostGeneral}
use Rattle.joint_unifiers.proofs.Remaining.{has_any}
use Rattle.joint_unifiers.proofs.remainder.+binds.Given as goal

abbrev pub decreases-binds_in : goal.decreases-binds_in
decreases-binds_in l = 2 * height (term_value l.term.now)

abbrev pub decreases-binds_among : goal.decreases-binds_among
decreases-binds_among l = 2 * heights (arguments_of l.terms.now.items) + 1

-- What is left decides.
abbrev pub invariant-binds_among-loop-k : goal.invariant-binds_among-loop-k
invariant-binds_among-loop-k l =
    (u : Family) → IsMostGeneral l.bindings u → has_any (λ (x : ℕ). not (is_variable (u l.space x))) l.terms.items ≡ has_any (λ (x : ℕ). not (is_variable (u l.space x))) (drop l.k l.terms.items)
