use Rattle.std.proofs.Common.{◌≡◌, List, sym, subst}
use Rattle.branch_core.specs.Assemble.{CanAssemble}
use Rattle.branch_core.specs.Parts.{PartValue, RecordValue}
use Rattle.branch_core.specs.PartViews.{part_value}
use Rattle.walk_tests.specs.ThreeRecords.{IsPlainPart, three_records}
use Rattle.walk_tests.proofs.GiftChain.{three_can}
use Rattle.walk_tests.proofs.core_tests.answer.Goals as goal

can : (records : List RecordValue) (first second third : PartValue) → IsPlainPart first → IsPlainPart second → IsPlainPart third → records ≡ three_records first second third → CanAssemble records
can records first second third f g h e = subst CanAssemble (sym e) (three_can first second third f g h)

pub assemble-requires-clause-whole : goal.assemble-requires-clause-whole
assemble-requires-clause-whole c =
    can c.in_ok-records.records.items (part_value c.args.first) (part_value c.args.second) (part_value c.args.third) c.requires.first c.requires.second c.requires.third c.in_ok-records.ensures
