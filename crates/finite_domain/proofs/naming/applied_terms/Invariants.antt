use Rattle.std.proofs.Common.{◌≡◌, [], drop}
use Rattle.std.specs.List.{flat_map}
use Rattle.finite_domain.specs.Names.{first_terms, applied_in_all}
use Rattle.finite_domain.proofs.naming.applied_terms.Given as goal

-- What is found so far leads with the rest to what all lead to.
abbrev pub invariant-literals : goal.invariant-literals
invariant-literals l =
    first_terms l.found.keys (flat_map (λ m. applied_in_all m.atom.args) (drop l.literal-index l.literals)) ≡ first_terms [] (flat_map (λ m. applied_in_all m.atom.args) l.literals)
