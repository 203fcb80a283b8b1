use Rattle.std.proofs.Common.{◌≡◌, ◌++◌, drop, map}
use Rattle.finite_domain.specs.Flat.{term_literal}
use Rattle.finite_domain.proofs.literals.term_literals.Given as goal

-- The literals so far and those of the rest are all.
abbrev pub invariant-terms : goal.invariant-terms
invariant-terms l =
    l.made.items ++ map (term_literal l.names.keys) (drop l.subterm-index l.subterm-items) ≡ map (term_literal l.names.keys) l.terms.keys
