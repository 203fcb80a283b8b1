use Rattle.std.proofs.Common.{◌≡◌, ℕ, drop}
use Rattle.me_terms.specs.Context.{Context}
use Rattle.branch_core.specs.Gathered.{AreSettledParts}
use Rattle.branch_core.specs.PartViews.{part_values}
use Rattle.branch_core.specs.Total.{HasSat, total_of}
use Rattle.branch_core.proofs.deciding.first_model.Given as goal

-- What holds of the parts that are left holds of all parts.
abbrev pub invariant-loop-part : goal.invariant-loop-part
invariant-loop-part l = record {
  settled : AreSettledParts (part_values (drop l.part-index l.parts)) → AreSettledParts (part_values l.parts);
  decided : (n : ℕ) (context : Context) → total_of n (part_values (drop l.part-index l.parts)) ≡ HasSat context → total_of n (part_values l.parts) ≡ HasSat context;
}
