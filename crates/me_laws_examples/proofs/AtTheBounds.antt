-- A literal and a context at the bounds and beyond them: each by computing.
use Rattle.std.proofs.Common.{arith}
use Rattle.me_laws_examples.specs.AtTheBounds.{AtTheBounds}

pub at_the_bounds : AtTheBounds
at_the_bounds = record {
  fits = (omega arith, omega arith);
  too_deep = λ h. let bad = h.0 in omega (arith, bad);
  too_heavy = λ h. let bad = h.1 in omega (arith, bad);
  at_depth = λ h. omega (arith, h);
  at_weight = λ h. let bad = h.1 in omega (arith, bad);
  beyond_both = omega arith;
  depth_first = λ h. let bad = h.0 in omega (arith, bad);
  beyond_weight = (omega arith, omega arith);
  not_beyond_literals = λ h. h;
  not_beyond_list = λ h. h;
  room = omega arith;
  no_room = λ h. omega (arith, h);
}
