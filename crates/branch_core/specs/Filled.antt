-- Records put together: the parts of each gift's record stand in the place of its Gift.
use Rattle.std.specs.Prelude.{List, [], ◌∷◌, ◌++◌}
use Rattle.me_terms.specs.declared.bounds.Bound.{Bound}
use Rattle.branch_core.specs.Parts.{ListedValue, PartValue, Closed, Bounded, Sat, Gift, Cut, NoMemory, RecordValue}
use Rattle.branch_core.specs.Whole.{IsIn}

-- The part stands for leaves, and not for a subtree that was given away.
abbrev pub IsNoGift : PartValue → Type 0
IsNoGift (Closed list) = Unit {0}
IsNoGift (Bounded b) = Unit {0}
IsNoGift (Sat context) = Unit {0}
IsNoGift (Gift turns) = ⊥
IsNoGift (Cut key) = Unit {0}
IsNoGift NoMemory = Unit {0}

-- The second parts are the first with those of each gift's record, in turn, in its place.
pub data Filled (records : List RecordValue) : List PartValue → List PartValue → Type 0 where
  none_left : Filled records [] []
  own : {first : PartValue} {parts filled : List PartValue} → IsNoGift first → Filled records parts filled → Filled records (first ∷ parts) (first ∷ filled)
  put : {gift : RecordValue} {parts inner outer : List PartValue} → IsIn gift records → Filled records gift.parts inner → Filled records parts outer → Filled records (Gift gift.path ∷ parts) (inner ++ outer)

-- A part NoMemory stands left of the first Sat, or anywhere where there is no Sat; it stands left of each Cut too.
pub data LacksMemory : List PartValue → Type 0 where
  no_memory : {parts : List PartValue} → LacksMemory (NoMemory ∷ parts)
  after_closed : {list : ListedValue} {parts : List PartValue} → LacksMemory parts → LacksMemory (Closed list ∷ parts)
  after_bounded : {b : Bound} {parts : List PartValue} → LacksMemory parts → LacksMemory (Bounded b ∷ parts)

-- A Cut stands right of a Sat alone.
abbrev pub CutsFollowSat : List PartValue → Type 0
CutsFollowSat [] = Unit {0}
CutsFollowSat (Closed list ∷ parts) = CutsFollowSat parts
CutsFollowSat (Bounded b ∷ parts) = CutsFollowSat parts
CutsFollowSat (Sat context ∷ parts) = Unit {0}
CutsFollowSat (Gift turns ∷ parts) = CutsFollowSat parts
CutsFollowSat (Cut key ∷ parts) = ⊥
CutsFollowSat (NoMemory ∷ parts) = CutsFollowSat parts
