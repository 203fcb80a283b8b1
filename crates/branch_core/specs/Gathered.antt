-- Parts that are closed or met a bound, and the lists of closed parts as one.
use Rattle.std.specs.Prelude.{ℕ, List, [], ◌∷◌}
use Rattle.branch_core.specs.Parts.{ListedValue, Whole, TooHeavy, PartValue, Closed, Bounded, Sat, Gift, Cut, NoMemory}
use Rattle.branch_core.specs.SearchTree.{EachOnce}
use Rattle.branch_core.specs.Total.{listed_joined}

-- Each leaf of the part is closed.
abbrev pub IsClosedPart : PartValue → Type 0
IsClosedPart (Closed list) = Unit {0}
IsClosedPart (Bounded b) = ⊥
IsClosedPart (Sat context) = ⊥
IsClosedPart (Gift turns) = ⊥
IsClosedPart (Cut key) = ⊥
IsClosedPart NoMemory = ⊥

-- Each part is closed.
abbrev pub AreClosedParts : List PartValue → Type 0
AreClosedParts [] = Unit {0}
AreClosedParts (first ∷ parts) = IsClosedPart first × AreClosedParts parts

-- The leaves of the part are known, and none is exhausted.
abbrev pub IsSettledPart : PartValue → Type 0
IsSettledPart (Closed list) = Unit {0}
IsSettledPart (Bounded b) = Unit {0}
IsSettledPart (Sat context) = ⊥
IsSettledPart (Gift turns) = ⊥
IsSettledPart (Cut key) = ⊥
IsSettledPart NoMemory = ⊥

-- Each part is closed or met a bound.
abbrev pub AreSettledParts : List PartValue → Type 0
AreSettledParts [] = Unit {0}
AreSettledParts (first ∷ parts) = IsSettledPart first × AreSettledParts parts

-- The list of a closed part. Any other part has none.
abbrev pub listed_of : PartValue → ListedValue
listed_of (Closed list) = list
listed_of (Bounded b) = TooHeavy
listed_of (Sat context) = TooHeavy
listed_of (Gift turns) = TooHeavy
listed_of (Cut key) = TooHeavy
listed_of NoMemory = TooHeavy

-- The lists of the parts, joined from left to right.
abbrev pub gathered : ℕ → List PartValue → ListedValue
gathered list_bound [] = Whole []
gathered list_bound (first ∷ parts) = listed_joined list_bound (listed_of first) (gathered list_bound parts)

-- A list that is given has each of its instances once.
abbrev pub ListedOnce : ListedValue → Type 0
ListedOnce (Whole list) = EachOnce list
ListedOnce TooHeavy = Unit {0}
