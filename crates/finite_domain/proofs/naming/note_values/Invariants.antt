use Rattle.std.proofs.Common.{◌≡◌, drop}
use Rattle.std.specs.List.{flat_map}
use Rattle.finite_domain.specs.Names.{first_terms, with_value}
use Rattle.finite_domain.proofs.naming.note_values.Given as goal

-- What is found so far leads with the rest to what all lead to.
abbrev pub invariant-terms : goal.invariant-terms
invariant-terms l =
    first_terms l.names.keys (flat_map with_value (drop l.subterm-index l.subterm-items)) ≡ first_terms l.initial.names.keys (flat_map with_value l.terms.keys)
