use Rattle.std.proofs.Common.{◌≡◌, map}
use Rattle.std.specs.List.{range_with_len}
use Rattle.me_terms.specs.Terms.{Var}
use Rattle.finite_domain.proofs.literals.first_variables.Given as goal

abbrev pub invariant-variables : goal.invariant-variables
invariant-variables l = l.made.items ≡ map Var (range_with_len 0 l.x)
