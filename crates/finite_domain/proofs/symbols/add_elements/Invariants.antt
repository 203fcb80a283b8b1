use Rattle.std.proofs.Common.{◌≡◌}
use Rattle.finite_domain.specs.Flat.{elements}
use Rattle.finite_domain.proofs.symbols.add_elements.Given as goal

abbrev pub invariant-elements : goal.invariant-elements
invariant-elements l = record {
  functions : l.made.functions ≡ elements l.k;
  predicates : l.made.predicates ≡ l.initial.made.predicates;
}
