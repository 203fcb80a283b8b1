use Rattle.std.proofs.Common.{◌≡◌, drop}
use Rattle.std.specs.List.{flat_map}
use Rattle.me_terms.specs.Terms.{list_of}
use Rattle.finite_domain.specs.Names.{first_terms}
use Rattle.finite_domain.proofs.naming.note_own.Given as goal

-- What is found so far leads with the rest to what all lead to.
abbrev pub invariant-literals : goal.invariant-literals
invariant-literals l =
    first_terms l.names.keys (flat_map (λ m. list_of m.atom.args) (drop l.literal-index l.literals)) ≡ first_terms l.initial.names.keys (flat_map (λ m. list_of m.atom.args) l.literals)
