use Rattle.std.proofs.Common.{◌≡◌, take}
use Rattle.finite_domain.specs.Flat.{relations_from}
use Rattle.finite_domain.proofs.symbols.add_relations.Given as goal

abbrev pub invariant-functions : goal.invariant-functions
invariant-functions l = record {
  functions : l.made.functions ≡ l.initial.made.functions;
  predicates : l.made.predicates ≡ relations_from 0 (take l.j l.signature.functions);
}
