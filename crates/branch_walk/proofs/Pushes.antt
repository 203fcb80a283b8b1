-- How many parts came to a tally, call by call.
use Rattle.std.proofs.Common.{◌≡◌, ℕ, ◌+◌, ◌≤◌, true, Option, Some, None, arith}
use Rattle.branch_core.specs.declared.part.Part.{Part}
use Rattle.branch_core.specs.declared.part.Part.TheVariants as part
use Rattle.branch_walk.specs.Tallies.{AddsAtMost, AllowsCut, AllowsLoss, TakesLeaf, is_sat}
use Rattle.branch_walk.specs.declared.tally.Tally.{Tally}

pub adds_then : {m n : ℕ} {a b c : Tally} → AddsAtMost m a b → AddsAtMost n b c → AddsAtMost (m + n) a c
adds_then f g =
    let few = f.few in
    let more_few = g.few in
    let room = f.room in
    let more_room = g.room in
    record { few = omega (arith, few, more_few); room = omega (arith, room, more_room) }

pub adds_none : (a : Tally) → AddsAtMost 0 a a
adds_none a = record { few = omega arith; room = omega arith }

pub adds_within : {m : ℕ} {a b : Tally} (n : ℕ) → m ≤ n → AddsAtMost m a b → AddsAtMost n a b
adds_within n le f =
    let few = f.few in
    let room = f.room in
    record { few = omega (arith, few, le); room = omega (arith, room, le) }

-- a tally that takes a leaf, or whose last leaf is exhausted, takes a Cut
pub open_takes : (key : ℕ) (last : Option Part) → TakesLeaf last → AllowsCut key last
open_takes key None h = tt
open_takes key (Some (part.Closed l)) h = tt
open_takes key (Some (part.Bounded b)) h = tt
open_takes key (Some (part.Sat context)) h = tt
open_takes key (Some (part.Gift path)) h = absurd h
open_takes key (Some (part.Cut other)) h = absurd h
open_takes key (Some part.NoMemory) h = absurd h

-- it takes a loss too
pub open_loses : (last : Option Part) → TakesLeaf last → AllowsLoss last
open_loses None h = tt
open_loses (Some (part.Closed l)) h = tt
open_loses (Some (part.Bounded b)) h = tt
open_loses (Some (part.Sat context)) h = absurd h
open_loses (Some (part.Gift path)) h = absurd h
open_loses (Some (part.Cut other)) h = absurd h
open_loses (Some part.NoMemory) h = absurd h

pub sated_takes : (key : ℕ) (last : Option Part) → is_sat last ≡ true → AllowsCut key last
sated_takes key None h = tt
sated_takes key (Some (part.Closed l)) h = tt
sated_takes key (Some (part.Bounded b)) h = tt
sated_takes key (Some (part.Sat context)) h = tt
sated_takes key (Some (part.Gift path)) h = cc h
sated_takes key (Some (part.Cut other)) h = cc h
sated_takes key (Some part.NoMemory) h = cc h
