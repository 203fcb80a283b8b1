use Rattle.std.proofs.Common.{◌≡◌, drop, map}
use Rattle.me_terms.specs.Variables.{first_ones}
use Rattle.finite_domain.proofs.symbols.note_predicates.Given as goal

-- What is noted so far leads with the rest to what all lead to.
abbrev pub invariant-literals : goal.invariant-literals
invariant-literals l =
    first_ones l.order.keys (map (λ m. m.atom.pred) (drop l.literal-index l.literals)) ≡ first_ones l.initial.order.keys (map (λ m. m.atom.pred) l.literals)
