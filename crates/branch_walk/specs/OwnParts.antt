-- Parts of leaves that were walked.
use Rattle.branch_core.specs.Parts.{PartValue}
use Rattle.branch_core.specs.Parts as part

-- The part stands for leaves that were walked, or lost for want of memory: it is no Gift and no Cut.
abbrev pub IsOwnPart : PartValue → Type 0
IsOwnPart (part.Closed l) = Unit {0}
IsOwnPart (part.Bounded b) = Unit {0}
IsOwnPart (part.Sat context) = Unit {0}
IsOwnPart (part.Gift turns) = ⊥
IsOwnPart (part.Cut k) = ⊥
IsOwnPart part.NoMemory = Unit {0}
