use Rattle.std.proofs.Common.{◌≡◌, ◌+◌, ◌++◌, take, map}
use Rattle.finite_domain.specs.Flat.{numbered_from, flat_literals}
use Rattle.finite_domain.proofs.clauses.add_clauses.Given as goal

abbrev pub invariant-clauses : goal.invariant-clauses
invariant-clauses l =
    l.made.items ≡ l.initial.made.items ++ numbered_from (l.relations + 1) (map (λ c. flat_literals l.relations l.order.keys c.literals) (take l.clause-index l.clauses))
