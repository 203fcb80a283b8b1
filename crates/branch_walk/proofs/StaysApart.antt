-- Neighbours that cannot be joined: among the parts of a tally, and then among the pieces of a portion.
use Rattle.std.proofs.Common.{◌≡◌, ℕ, false, List, [], ◌∷◌, ◌++◌, map, Option, Some, None, refl, subst}
use Rattle.branch_core.specs.Paths.{Turns}
use Rattle.branch_core.specs.Parts.{PartValue}
use Rattle.branch_core.specs.Parts as value
use Rattle.branch_core.specs.PartViews.{part_value}
use Rattle.branch_core.specs.Pieces.{Piece, Closed, Bounded, Sat, Gift, Cut, NoMemory}
use Rattle.branch_core.specs.Joined.{Joins, SatTakes, NoMemoryTakes, closed_closed, closed_bounded, bounded_closed, bounded_bounded, closed_sat, bounded_sat, sat_takes, takes_later, takes_earlier, cut_cut}
use Rattle.branch_core.specs.StandsFor.{part_of}
use Rattle.branch_core.specs.declared.part.Part.{Part}
use Rattle.branch_core.specs.declared.part.Part.TheVariants as part
use Rattle.branch_core.specs.Portions.{IsJoinedThrough}
use Rattle.branch_walk.specs.Tallies.{IsGift, StandApart, AllStandApart, AreClosedOff, EndsApart, TakesLeaf, AllowsCut, AllowsLoss, is_sat_or_cut}

-- ---- one part more
gift_behind : (p : PartValue) (turns : Turns) → StandApart p (value.Gift turns)
gift_behind (value.Closed l) turns = tt
gift_behind (value.Bounded b) turns = tt
gift_behind (value.Sat context) turns = tt
gift_behind (value.Gift other) turns = tt
gift_behind (value.Cut key) turns = tt
gift_behind value.NoMemory turns = tt

one_behind : (ps : List PartValue) (last next : PartValue) → AllStandApart (ps ++ last ∷ []) → StandApart last next → AllStandApart ((ps ++ last ∷ []) ++ next ∷ [])
one_behind [] last next h apart = (apart, tt)
one_behind (p ∷ []) last next h apart = (h.0, (apart, tt))
one_behind (p ∷ (q ∷ ps)) last next h apart = (h.0, one_behind (q ∷ ps) last next h.1 apart)

with_gift : (ps : List PartValue) (turns : Turns) → AllStandApart ps → AllStandApart (ps ++ value.Gift turns ∷ [])
with_gift [] turns h = tt
with_gift (p ∷ []) turns h = (gift_behind p turns, tt)
with_gift (p ∷ (q ∷ ps)) turns h = (h.0, with_gift (q ∷ ps) turns h.1)

without_last : (ps : List PartValue) (last : PartValue) → AllStandApart (ps ++ last ∷ []) → AllStandApart ps
without_last [] last h = tt
without_last (p ∷ []) last h = tt
without_last (p ∷ (q ∷ ps)) last h = (h.0, without_last (q ∷ ps) last h.1)

-- a gift closes off what stands before it
pub gift_closes_off : (ps : List PartValue) (turns : Turns) → AllStandApart ps → AreClosedOff (ps ++ value.Gift turns ∷ [])
gift_closes_off ps turns h = λ next. one_behind ps (value.Gift turns) next (with_gift ps turns h) tt

-- ---- the last part
pub open_closed_off : (ps : List PartValue) (last : Option Part) → TakesLeaf last → EndsApart ps last → AreClosedOff ps
open_closed_off ps None takes h = h
open_closed_off ps (Some (part.Closed l)) takes h = h
open_closed_off ps (Some (part.Bounded b)) takes h = h
open_closed_off ps (Some (part.Sat context)) takes h = absurd takes
open_closed_off ps (Some (part.Gift path)) takes h = absurd takes
open_closed_off ps (Some (part.Cut key)) takes h = absurd takes
open_closed_off ps (Some part.NoMemory) takes h = absurd takes

pub loss_closed_off : (ps : List PartValue) (last : Option Part) → AllowsLoss last → EndsApart ps last → AreClosedOff ps
loss_closed_off ps None may h = h
loss_closed_off ps (Some (part.Closed l)) may h = h
loss_closed_off ps (Some (part.Bounded b)) may h = h
loss_closed_off ps (Some (part.Sat context)) may h = h
loss_closed_off ps (Some (part.Gift path)) may h = absurd may
loss_closed_off ps (Some (part.Cut key)) may h = absurd may
loss_closed_off ps (Some part.NoMemory) may h = h

pub last_apart : (ps : List PartValue) (p : Part) → EndsApart ps (Some p) → AllStandApart (ps ++ part_value p ∷ [])
last_apart ps (part.Closed l) h = h (part_value (part.Closed l))
last_apart ps (part.Bounded b) h = h (part_value (part.Bounded b))
last_apart ps (part.Sat context) h = h (part_value (part.Sat context))
last_apart ps (part.Gift path) h = h (part_value (part.Gift path))
last_apart ps (part.Cut key) h = h
last_apart ps part.NoMemory h = h value.NoMemory

pub none_apart : (ps : List PartValue) → AreClosedOff ps → AllStandApart ps
none_apart ps h = without_last ps value.NoMemory (h value.NoMemory)

-- a Cut behind a part that it is not joined to
pub cut_apart : (key : ℕ) (ps : List PartValue) (p : Part) → AllowsCut key (Some p) → is_sat_or_cut (Some p) ≡ false → EndsApart ps (Some p) → AllStandApart ((ps ++ part_value p ∷ []) ++ value.Cut key ∷ [])
cut_apart key ps (part.Closed l) may other_than h = one_behind ps (part_value (part.Closed l)) (value.Cut key) (h (part_value (part.Closed l))) tt
cut_apart key ps (part.Bounded b) may other_than h = one_behind ps (part_value (part.Bounded b)) (value.Cut key) (h (part_value (part.Bounded b))) tt
cut_apart key ps (part.Sat context) may other_than h = cc other_than
cut_apart key ps (part.Gift path) may other_than h = absurd may
cut_apart key ps (part.Cut other) may other_than h = cc other_than
cut_apart key ps part.NoMemory may other_than h = absurd may

-- ---- the pieces
sat_keeps : (n : ℕ) (p : Piece) → SatTakes p → IsGift (part_of n p) → ⊥
sat_keeps n (Closed list) takes h = h
sat_keeps n (Bounded b) takes h = h
sat_keeps n (Sat turns context) takes h = h
sat_keeps n (Gift turns) takes h = takes
sat_keeps n (Cut turns key) takes h = h
sat_keeps n NoMemory takes h = h

loss_keeps_later : (n : ℕ) (p : Piece) → NoMemoryTakes p → StandApart value.NoMemory (part_of n p) → ⊥
loss_keeps_later n (Closed list) takes h = h
loss_keeps_later n (Bounded b) takes h = h
loss_keeps_later n (Sat turns context) takes h = takes
loss_keeps_later n (Gift turns) takes h = takes
loss_keeps_later n (Cut turns key) takes h = h
loss_keeps_later n NoMemory takes h = h

loss_keeps_earlier : (n : ℕ) (p : Piece) → NoMemoryTakes p → StandApart (part_of n p) value.NoMemory → ⊥
loss_keeps_earlier n (Closed list) takes h = h
loss_keeps_earlier n (Bounded b) takes h = h
loss_keeps_earlier n (Sat turns context) takes h = takes
loss_keeps_earlier n (Gift turns) takes h = takes
loss_keeps_earlier n (Cut turns key) takes h = h
loss_keeps_earlier n NoMemory takes h = h

joins_apart : (n : ℕ) {first second one : Piece} → Joins first second one → StandApart (part_of n first) (part_of n second) → ⊥
joins_apart n closed_closed h = h
joins_apart n closed_bounded h = h
joins_apart n bounded_closed h = h
joins_apart n bounded_bounded h = h
joins_apart n closed_sat h = h
joins_apart n bounded_sat h = h
joins_apart n (sat_takes {later = later} takes) h = sat_keeps n later takes h
joins_apart n (takes_later {later = later} takes) h = loss_keeps_later n later takes h
joins_apart n (takes_earlier {earlier = earlier} takes) h = loss_keeps_earlier n earlier takes h
joins_apart n cut_cut h = h refl

neighbours_apart : (n : ℕ) (before after : List Piece) (first second : Piece) → AllStandApart (map (part_of n) (before ++ first ∷ second ∷ after)) → StandApart (part_of n first) (part_of n second)
neighbours_apart n [] after first second h = h.0
neighbours_apart n (p ∷ []) after first second h = h.1.0
neighbours_apart n (p ∷ (q ∷ before)) after first second h = neighbours_apart n (q ∷ before) after first second h.1

pub joined_through : (n : ℕ) (pieces : List Piece) → AllStandApart (map (part_of n) pieces) → IsJoinedThrough pieces
joined_through n pieces h before after first second is can =
    let A : List Piece → Type 0 = λ ps. AllStandApart (map (part_of n) ps) in
    joins_apart n can.1 (neighbours_apart n before after first second (subst A is h))
