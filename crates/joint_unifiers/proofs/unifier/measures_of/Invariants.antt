use Rattle.std.proofs.Common.{◌≡◌, length}
use Rattle.joint_unifiers.proofs.Measuring.{AreMeasures}
use Rattle.joint_unifiers.proofs.unifier.measures_of.Given as goal

-- The literals so far are measured, and the equations stay.
abbrev pub invariant-loop-literal : goal.invariant-loop-literal
invariant-loop-literal l = record {
  kept : l.bindings ≡ l.initial.bindings;
  each_place : length l.measures.items ≡ l.literal-index;
  measured : AreMeasures l.initial.bindings l.literals l.measures.items;
}
