use Rattle.std.proofs.Common.{◌≡◌, ◌++◌, take, map}
use Rattle.finite_domain.specs.Flat.{relations_from, copy_of}
use Rattle.finite_domain.proofs.symbols.add_copies.Given as goal

abbrev pub invariant-predicates : goal.invariant-predicates
invariant-predicates l = record {
  functions : l.made.functions ≡ l.initial.made.functions;
  predicates : l.made.predicates ≡ relations_from 0 l.signature.functions ++ map (copy_of l.signature.predicates) (take l.pred-index l.pred-items);
}
