use Rattle.std.proofs.Common.{◌≡◌, ◌++◌, drop, map}
use Rattle.me_terms.specs.TermViews.{term_value}
use Rattle.finite_domain.specs.Names.{variable_of}
use Rattle.finite_domain.proofs.literals.variables.Given as goal

-- The variables so far and those of the rest are all.
abbrev pub invariant-terms : goal.invariant-terms
invariant-terms l =
    l.made.items ++ map (λ t. variable_of l.names.keys (term_value t)) (drop l.term-index l.terms) ≡ map (λ t. variable_of l.names.keys (term_value t)) l.terms
