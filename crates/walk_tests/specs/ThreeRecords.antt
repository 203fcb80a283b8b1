-- Three records, each of which gives the next one away, as tests put them together.
use Rattle.std.specs.Prelude.{true, List, [], ◌∷◌}
use Rattle.branch_core.specs.Parts.{PartValue, Closed, Bounded, Sat, Gift, Cut, NoMemory, RecordValue}

-- The part is neither a gift nor a Cut.
abbrev pub IsPlainPart : PartValue → Type 0
IsPlainPart (Closed list) = Unit {0}
IsPlainPart (Bounded b) = Unit {0}
IsPlainPart (Sat context) = Unit {0}
IsPlainPart (Gift turns) = ⊥
IsPlainPart (Cut key) = ⊥
IsPlainPart NoMemory = Unit {0}

-- The root gives its right child away, and that child its own.
abbrev pub three_records : PartValue → PartValue → PartValue → List RecordValue
three_records first second third =
    record { path = []; parts = first ∷ Gift (true ∷ []) ∷ [] }
    ∷ record { path = true ∷ []; parts = second ∷ Gift (true ∷ true ∷ []) ∷ [] }
    ∷ record { path = true ∷ true ∷ []; parts = third ∷ [] } ∷ []
