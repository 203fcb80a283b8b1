use Rattle.std.proofs.Common.{◌≡◌, ◌-◌, ◌++◌, List, length, drop, map}
use Rattle.branch_core.specs.Filled.{Filled}
use Rattle.branch_core.specs.Parts.{PartValue}
use Rattle.branch_core.specs.PartViews.{part_value, part_values}
use Rattle.branch_core.proofs.assembling.+fill.Given as goal

abbrev pub decreases-fill : goal.decreases-fill
decreases-fill l = 16 - length l.path

-- The parts that were put at the end, and those that are left with their gifts filled in, are together those of the record.
abbrev pub invariant-loop-part : goal.invariant-loop-part
invariant-loop-part l =
    (rest : List PartValue) → Filled l.records (map part_value (drop l.part-index l.part-items)) rest → (filled : List PartValue) × Filled l.records (map part_value l.part-items) filled × (part_values l.fn.parts.items ++ filled ≡ part_values l.parts.items ++ rest)
