-- Which bounds are lawful: each by computing.
use Rattle.std.proofs.Common.{arith}
use Rattle.me_laws_examples.specs.LawfulBounds.{LawfulBounds}

pub lawful_bounds : LawfulBounds
lawful_bounds = record {
  least = λ begins. record { depth = (omega arith, omega arith); weight = (omega arith, omega arith); literals = (omega arith, omega arith); list = (omega arith, omega arith) };
  greatest = λ begins. record { depth = (omega arith, omega arith); weight = (omega arith, omega arith); literals = (omega arith, omega arith); list = (omega arith, omega arith) };
  no_depth = λ begins h. let bad = h.depth.0 in omega (arith, bad);
  no_weight = λ begins h. let bad = h.weight.0 in omega (arith, bad);
  no_literals = λ begins h. let bad = h.literals.0 in omega (arith, bad);
  no_list = λ begins h. let bad = h.list.0 in omega (arith, bad);
  too_deep = λ begins h. let bad = h.depth.1 in omega (arith, bad);
  too_heavy = λ begins h. let bad = h.weight.1 in omega (arith, bad);
  too_many_literals = λ begins h. let bad = h.literals.1 in omega (arith, bad);
  too_long_list = λ begins h. let bad = h.list.1 in omega (arith, bad);
}
