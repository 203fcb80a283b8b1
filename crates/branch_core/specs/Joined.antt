-- The second move by which parts stand for a path: neighbours are joined.
use Rattle.branch_core.specs.Pieces.{Piece, Closed, Bounded, Sat, Gift, Cut, NoMemory}
use Rattle.std.specs.Prelude.{ℕ, List, ◌∷◌, ◌++◌}
use Rattle.me_terms.specs.Values.{InstanceValue}
use Rattle.me_terms.specs.Context.{Context}
use Rattle.me_terms.specs.FirstOccurrences.{joined}
use Rattle.me_terms.specs.declared.bounds.Bound.{Bound}
use Rattle.branch_core.specs.Paths.{Turns}

-- What a Sat takes in where it follows it: all but a Gift.
abbrev pub SatTakes : Piece → Type 0
SatTakes (Closed list) = Unit {0}
SatTakes (Bounded b) = Unit {0}
SatTakes (Sat turns context) = Unit {0}
SatTakes (Gift turns) = ⊥
SatTakes (Cut turns key) = Unit {0}
SatTakes NoMemory = Unit {0}

-- What a NoMemory takes in on either side: all but a Sat and a Gift.
abbrev pub NoMemoryTakes : Piece → Type 0
NoMemoryTakes (Closed list) = Unit {0}
NoMemoryTakes (Bounded b) = Unit {0}
NoMemoryTakes (Sat turns context) = ⊥
NoMemoryTakes (Gift turns) = ⊥
NoMemoryTakes (Cut turns key) = Unit {0}
NoMemoryTakes NoMemory = Unit {0}

-- Two neighbours may be joined to the third piece. Own leaves are joined as outcomes are.
pub data Joins : Piece → Piece → Piece → Type 0 where
  closed_closed : {list more : List InstanceValue} → Joins (Closed list) (Closed more) (Closed (joined list more))
  closed_bounded : {list : List InstanceValue} {b : Bound} → Joins (Closed list) (Bounded b) (Bounded b)
  bounded_closed : {b : Bound} {list : List InstanceValue} → Joins (Bounded b) (Closed list) (Bounded b)
  bounded_bounded : {b c : Bound} → Joins (Bounded b) (Bounded c) (Bounded b)
  closed_sat : {list : List InstanceValue} {turns : Turns} {context : Context} → Joins (Closed list) (Sat turns context) (Sat turns context)
  bounded_sat : {b : Bound} {turns : Turns} {context : Context} → Joins (Bounded b) (Sat turns context) (Sat turns context)
  sat_takes : {turns : Turns} {context : Context} {later : Piece} → SatTakes later → Joins (Sat turns context) later (Sat turns context)
  takes_later : {later : Piece} → NoMemoryTakes later → Joins NoMemory later NoMemory
  takes_earlier : {earlier : Piece} → NoMemoryTakes earlier → Joins earlier NoMemory NoMemory
  cut_cut : {turns more : Turns} {key : ℕ} → Joins (Cut turns key) (Cut more key) (Cut turns key)

-- Any number of neighbours are joined, one pair after another.
pub data Joined : List Piece → List Piece → Type 0 where
  as_they_are : {pieces : List Piece} → Joined pieces pieces
  join : (before after others : List Piece) (first second one : Piece) → Joins first second one → Joined (before ++ one ∷ after) others → Joined (before ++ first ∷ second ∷ after) others
