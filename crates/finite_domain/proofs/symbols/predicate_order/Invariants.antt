use Rattle.std.proofs.Common.{◌≡◌, [], drop, map}
use Rattle.std.specs.List.{flat_map}
use Rattle.me_terms.specs.Variables.{first_ones}
use Rattle.finite_domain.proofs.symbols.predicate_order.Given as goal

-- What is noted so far leads with the rest to what all lead to.
abbrev pub invariant-clauses : goal.invariant-clauses
invariant-clauses l =
    first_ones l.order.keys (flat_map (λ c. map (λ m. m.atom.pred) c.literals) (drop l.clause-index l.clauses)) ≡ first_ones [] (flat_map (λ c. map (λ m. m.atom.pred) c.literals) l.clauses)
