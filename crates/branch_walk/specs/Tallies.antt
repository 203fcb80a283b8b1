-- Tallies: what a walk has found so far, with neighbours joined.
use Rattle.std.specs.Prelude.{◌≡◌, ◌+◌, ◌≤◌, ℕ, Bool, true, false, List, [], ◌∷◌, ◌++◌, map, length, Option, Some, None}
use Rattle.branch_core.specs.Paths.{Turns}
use Rattle.branch_core.specs.Parts.{PartValue}
use Rattle.branch_core.specs.Parts as value
use Rattle.branch_core.specs.PartViews.{part_value}
use Rattle.branch_core.specs.Pieces.{Piece}
use Rattle.branch_core.specs.Pieces as piece
use Rattle.branch_core.specs.Joined.{Joined}
use Rattle.branch_core.specs.StandsFor.{part_of}
use Rattle.branch_core.specs.SearchTree.{EachOnce}
use Rattle.branch_core.specs.declared.part.Part.{Part}
use Rattle.branch_core.specs.declared.part.Part.TheVariants.{Closed, Bounded, Sat, Gift, Cut, NoMemory}
use Rattle.branch_walk.specs.declared.tally.Tally.{Tally}

-- The Cuts of these nodes, with one key.
abbrev pub cuts : ℕ → List Turns → List Piece
cuts key nodes = map (λ turns. piece.Cut turns key) nodes

-- These nodes are lost for want of memory.
abbrev pub losses : List Turns → List Piece
losses nodes = map (λ turns. piece.NoMemory) nodes

-- What follows may be joined to the piece: it is no Gift, and the list of a closed one has each of its instances once.
abbrev pub MayTakeMore : Piece → Type 0
MayTakeMore (piece.Closed list) = EachOnce list
MayTakeMore (piece.Bounded b) = Unit {0}
MayTakeMore (piece.Sat turns context) = Unit {0}
MayTakeMore (piece.Gift turns) = ⊥
MayTakeMore (piece.Cut turns key) = Unit {0}
MayTakeMore piece.NoMemory = Unit {0}

-- The last part is that of the one piece of the list; there is none where the list is empty.
abbrev pub IsLast : ℕ → Option Part → List Piece → Type 0
IsLast list_bound None tail = tail ≡ []
IsLast list_bound (Some part) tail = (one : Piece) × (tail ≡ one ∷ []) × (part_value part ≡ part_of list_bound one) × MayTakeMore one

-- The part is a Gift, to which nothing is joined.
abbrev pub IsGift : PartValue → Type 0
IsGift (value.Closed l) = ⊥
IsGift (value.Bounded b) = ⊥
IsGift (value.Sat context) = ⊥
IsGift (value.Gift turns) = Unit {0}
IsGift (value.Cut key) = ⊥
IsGift value.NoMemory = ⊥

-- The part is not joined to an own leaf before it.
abbrev pub StaysBehindLeaf : PartValue → Type 0
StaysBehindLeaf (value.Closed l) = ⊥
StaysBehindLeaf (value.Bounded b) = ⊥
StaysBehindLeaf (value.Sat context) = ⊥
StaysBehindLeaf (value.Gift turns) = Unit {0}
StaysBehindLeaf (value.Cut key) = Unit {0}
StaysBehindLeaf value.NoMemory = ⊥

-- The part is not joined to a Cut with this key before it.
abbrev pub StaysBehindCut : ℕ → PartValue → Type 0
StaysBehindCut key (value.Closed l) = Unit {0}
StaysBehindCut key (value.Bounded b) = Unit {0}
StaysBehindCut key (value.Sat context) = Unit {0}
StaysBehindCut key (value.Gift turns) = Unit {0}
StaysBehindCut key (value.Cut other) = ¬ (key ≡ other)
StaysBehindCut key value.NoMemory = ⊥

-- The part is not joined to a NoMemory before it.
abbrev pub StaysBehindLoss : PartValue → Type 0
StaysBehindLoss (value.Closed l) = ⊥
StaysBehindLoss (value.Bounded b) = ⊥
StaysBehindLoss (value.Sat context) = Unit {0}
StaysBehindLoss (value.Gift turns) = Unit {0}
StaysBehindLoss (value.Cut key) = ⊥
StaysBehindLoss value.NoMemory = ⊥

-- Two neighbours that cannot be joined.
abbrev pub StandApart : PartValue → PartValue → Type 0
StandApart (value.Closed l) second = StaysBehindLeaf second
StandApart (value.Bounded b) second = StaysBehindLeaf second
StandApart (value.Sat context) second = IsGift second
StandApart (value.Gift turns) second = Unit {0}
StandApart (value.Cut key) second = StaysBehindCut key second
StandApart value.NoMemory second = StaysBehindLoss second

-- No two neighbours among the parts can be joined.
abbrev pub AllStandApart : List PartValue → Type 0
AllStandApart [] = Unit {0}
AllStandApart (first ∷ []) = Unit {0}
AllStandApart (first ∷ (second ∷ later)) = StandApart first second × AllStandApart (second ∷ later)

-- The same, with whatever comes next.
abbrev pub AreClosedOff : List PartValue → Type 0
AreClosedOff parts = (next : PartValue) → AllStandApart (parts ++ next ∷ [])

-- The last part cannot be joined to those before it, nor can what may take its place: only a Cut stands behind own leaves.
abbrev pub EndsApart : List PartValue → Option Part → Type 0
EndsApart parts None = AreClosedOff parts
EndsApart parts (Some (Closed listed)) = AreClosedOff parts
EndsApart parts (Some (Bounded b)) = AreClosedOff parts
EndsApart parts (Some (Sat context)) = AreClosedOff parts
EndsApart parts (Some (Gift path)) = AreClosedOff parts
EndsApart parts (Some (Cut key)) = AllStandApart (parts ++ value.Cut key ∷ [])
EndsApart parts (Some NoMemory) = AreClosedOff parts

-- The tally has the parts of pieces to which the leaves are joined, and no two neighbours among them can be joined.
pub record IsTally (list_bound : ℕ) (tally : Tally) (leaves : List Piece) : Type 0 where
  pub earlier : List Piece
  pub tail : List Piece
  pub parts_are : map part_value tally.parts.items ≡ map (part_of list_bound) earlier
  pub last_is : IsLast list_bound tally.last tail
  pub joined : Joined leaves (earlier ++ tail)
  pub apart : EndsApart (map part_value tally.parts.items) tally.last

-- So many further parts fit with no allocation.
abbrev pub HasSpare : ℕ → Tally → Type 0
HasSpare n tally = n ≤ tally.parts.spare

-- From the one tally to the other at most so many parts came to stand before the last one.
pub record AddsAtMost (n : ℕ) (old new : Tally) : Type 0 where
  pub few : length new.parts.items ≤ length old.parts.items + n
  pub room : old.parts.spare ≤ new.parts.spare + n

-- An own leaf can be joined to the part, or there is none.
abbrev pub TakesLeaf : Option Part → Type 0
TakesLeaf None = Unit {0}
TakesLeaf (Some (Closed listed)) = Unit {0}
TakesLeaf (Some (Bounded b)) = Unit {0}
TakesLeaf (Some (Sat context)) = ⊥
TakesLeaf (Some (Gift path)) = ⊥
TakesLeaf (Some (Cut key)) = ⊥
TakesLeaf (Some NoMemory) = ⊥

-- A Cut with this key can be joined to the part, or can stand behind it.
abbrev pub AllowsCut : ℕ → Option Part → Type 0
AllowsCut key None = Unit {0}
AllowsCut key (Some (Closed listed)) = Unit {0}
AllowsCut key (Some (Bounded b)) = Unit {0}
AllowsCut key (Some (Sat context)) = Unit {0}
AllowsCut key (Some (Gift path)) = ⊥
AllowsCut key (Some (Cut other)) = other ≡ key
AllowsCut key (Some NoMemory) = ⊥

-- A loss can be joined to the part, or can stand behind those before it.
abbrev pub AllowsLoss : Option Part → Type 0
AllowsLoss None = Unit {0}
AllowsLoss (Some (Closed listed)) = Unit {0}
AllowsLoss (Some (Bounded b)) = Unit {0}
AllowsLoss (Some (Sat context)) = Unit {0}
AllowsLoss (Some (Gift path)) = ⊥
AllowsLoss (Some (Cut key)) = ⊥
AllowsLoss (Some NoMemory) = Unit {0}

-- The part is a bound that was met.
abbrev pub is_bounded : Option Part → Bool
is_bounded None = false
is_bounded (Some (Closed listed)) = false
is_bounded (Some (Bounded b)) = true
is_bounded (Some (Sat context)) = false
is_bounded (Some (Gift path)) = false
is_bounded (Some (Cut key)) = false
is_bounded (Some NoMemory) = false

-- The part is an exhausted leaf's.
abbrev pub is_sat : Option Part → Bool
is_sat None = false
is_sat (Some (Closed listed)) = false
is_sat (Some (Bounded b)) = false
is_sat (Some (Sat context)) = true
is_sat (Some (Gift path)) = false
is_sat (Some (Cut key)) = false
is_sat (Some NoMemory) = false

-- The part is an exhausted leaf's, or a Cut.
abbrev pub is_sat_or_cut : Option Part → Bool
is_sat_or_cut None = false
is_sat_or_cut (Some (Closed listed)) = false
is_sat_or_cut (Some (Bounded b)) = false
is_sat_or_cut (Some (Sat context)) = true
is_sat_or_cut (Some (Gift path)) = false
is_sat_or_cut (Some (Cut key)) = true
is_sat_or_cut (Some NoMemory) = false

-- A tally that takes in an own leaf.
abbrev pub TakesOwnLeaf : Tally → Type 0
TakesOwnLeaf tally = TakesLeaf tally.last

-- A tally that takes in a Cut with this key.
abbrev pub TakesCut : ℕ → Tally → Type 0
TakesCut key tally = AllowsCut key tally.last

-- A tally that takes in a loss.
abbrev pub TakesLoss : Tally → Type 0
TakesLoss tally = AllowsLoss tally.last

-- A tally whose last part is an exhausted leaf's.
abbrev pub IsSated : Tally → Type 0
IsSated tally = is_sat tally.last ≡ true
