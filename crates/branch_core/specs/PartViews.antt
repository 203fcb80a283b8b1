-- The program's parts as contracts see them.
use Rattle.std.specs.Prelude.{List, map}
use Rattle.std.specs.Borrow.{Bor}
use Rattle.branch_core.specs.Parts.{ListedValue, PartValue}
use Rattle.branch_core.specs.Parts as parts
use Rattle.branch_core.specs.declared.part.Listed.{Listed}
use Rattle.branch_core.specs.declared.part.Listed.TheVariants.{Whole, TooHeavy}
use Rattle.branch_core.specs.declared.part.Part.{Part}
use Rattle.branch_core.specs.declared.part.Part.TheVariants.{Closed, Bounded, Sat, Gift, Cut, NoMemory}

-- The list of a closed part as contracts see it.
abbrev pub listed_value : Listed → ListedValue
listed_value (Whole list) = parts.Whole list.items
listed_value TooHeavy = parts.TooHeavy

-- The part as contracts see it.
abbrev pub part_value : Part → PartValue
part_value (Closed listed) = parts.Closed (listed_value listed)
part_value (Bounded bound) = parts.Bounded bound
part_value (Sat context) = parts.Sat context.items
part_value (Gift path) = parts.Gift path
part_value (Cut key) = parts.Cut key
part_value NoMemory = parts.NoMemory

-- The parts to which references lead.
abbrev pub part_values : List (Bor Part) → List PartValue
part_values parts = map (λ part. part_value part.now) parts
