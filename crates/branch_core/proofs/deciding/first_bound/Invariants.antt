use Rattle.std.proofs.Common.{◌≡◌, ℕ, drop}
use Rattle.me_terms.specs.declared.bounds.Bound.{Bound}
use Rattle.branch_core.specs.Gathered.{AreClosedParts, AreSettledParts}
use Rattle.branch_core.specs.PartViews.{part_values}
use Rattle.branch_core.specs.Total.{HasBound, total_of}
use Rattle.branch_core.proofs.deciding.first_bound.Given as goal

-- What holds of the parts that are left holds of all parts.
abbrev pub invariant-loop-part : goal.invariant-loop-part
invariant-loop-part l = record {
  settled : AreSettledParts (part_values (drop l.part-index l.parts));
  closed : AreClosedParts (part_values (drop l.part-index l.parts)) → AreClosedParts (part_values l.parts);
  decided : (n : ℕ) (b : Bound) → total_of n (part_values (drop l.part-index l.parts)) ≡ HasBound b → total_of n (part_values l.parts) ≡ HasBound b;
}
