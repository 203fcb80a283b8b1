use Rattle.std.proofs.Common.{◌≡◌, take}
use Rattle.me_terms.specs.Measures.{capped, literals_weight}
use Rattle.finite_domain.proofs.size.is_light.Given as goal

abbrev pub invariant-literals : goal.invariant-literals
invariant-literals l = l.weight ≡ capped (literals_weight (take l.literal-index l.literals))
