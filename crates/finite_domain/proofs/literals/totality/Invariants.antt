use Rattle.std.proofs.Common.{◌≡◌, map}
use Rattle.std.specs.List.{range_with_len}
use Rattle.finite_domain.specs.Flat.{value_literal}
use Rattle.finite_domain.proofs.literals.totality.Given as goal

abbrev pub invariant-elements : goal.invariant-elements
invariant-elements l = l.made.items ≡ map (value_literal l.j l.arity) (range_with_len 0 l.element)
