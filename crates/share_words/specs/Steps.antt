-- What each step tells the seat that makes it.
use Rattle.std.specs.Prelude.{◌≡◌, ℕ, ◌+◌, ◌≤◌, ◌<◌, nat_eq, List, if◌then◌else◌}
use Rattle.atomic_table.specs.Table.{Step, Me}
use Rattle.branch_core.specs.Paths.{Turns, key}
use Rattle.branch_core.specs.Parts.{PartValue}
use Rattle.branch_core.specs.Core.{Offer, Take, Post, Cut, End}
use Rattle.share_words.specs.declared.plays.SeatView.{SeatView}
use Rattle.share_words.specs.Counts.{path_count, number_count}
use Rattle.share_words.specs.Views.{with_offered, with_raised, with_taken, with_ended, with_posted, with_looked}
use Rattle.share_words.specs.Happens.{Happens}
use Rattle.share_words.specs.Rule.{no_key, at_root, Tells, IsLeastKey}
use Rattle.share_words.specs.Seats.{CanRaise, HasAll, Holds, seat_of}
use Rattle.share_words.specs.Lessons.{OwnLists, IsBelow, Learns}
use Rattle.atomic_table.specs.Seated.{TableId}

-- The step as the table tells it, and what a seat knows; no seat holds a slot.
abbrev pub Made : Type 0
Made = Step (Unit {0})

abbrev pub Knows : Type 0
Knows = Me (Unit {0}) SeatView

-- It is seat 0, and took in each seat that was made from it.
abbrev pub KnowsAll : SeatView → Type 0
KnowsAll v = HasAll v.number v.forks v.gathered

-- The path is given away where its word was 0.
abbrev pub offered_at : SeatView → Turns → ℕ → SeatView
offered_at v path found = if nat_eq found 0 then with_offered v path else v

-- The path is taken where its word was 1.
abbrev pub taken_at : SeatView → Turns → ℕ → SeatView
taken_at v path found = if nat_eq found 1 then with_taken v path else v

-- The seat that knows all knows a path's word.
abbrev pub OwnPath : SeatView → Turns → ℕ → Type 0
OwnPath v path found = KnowsAll v → Tells found (at_root path + path_count path v.offered) (path_count path v.taken)

-- An offer: where the word was 0 the path is given away and can be raised, and that is the event. The word that was found is 0, 1 or 2, and the seat that knows all knows which.
pub record WhenOffered (share : ℕ) (parent path : Turns) (s : Made) (v : Knows) (found : ℕ) (w : Knows) : Type 0 where
  pub seat : w ≡ (offered_at v.0 path found, v.1)
  pub few : found ≤ 2
  pub own : OwnPath v.0 path found
  pub can_raise : found ≡ 0 → (words : TableId) → CanRaise (seat_of words w.0) path
  pub event : found ≡ 0 → Happens share (Offer v.0.number parent path) v.0 w.0

-- A take: where the word was 1 the seat holds the path, and that is the event.
pub record WhenTaken (share : ℕ) (path : Turns) (s : Made) (v : Knows) (found : ℕ) (w : Knows) : Type 0 where
  pub seat : w ≡ (taken_at v.0 path found, v.1)
  pub few : found ≤ 2
  pub own : OwnPath v.0 path found
  pub holds : found ≡ 1 → (words : TableId) → Holds (seat_of words w.0) path
  pub event : found ≡ 1 → Happens share (Take v.0.number path) v.0 w.0

-- A raise: the path is alive. It is no event.
abbrev pub WhenRaised : Turns → Made → Knows → ℕ → Knows → Type 0
WhenRaised path s v found w = w ≡ (with_raised v.0 path, v.1)

-- An end: the path is alive no more. It is the event whatever the parts are that are handed back.
pub record WhenEnded (share : ℕ) (path : Turns) (s : Made) (v : Knows) (found : ℕ) (w : Knows) : Type 0 where
  pub seat : w ≡ (with_ended v.0 path, v.1)
  pub event : (parts : List PartValue) → Happens share (End v.0.number path parts) v.0 w.0

-- A post, which finds the least word of before.
pub record WhenPosted (share : ℕ) (s : Made) (v : Knows) (found : ℕ) (w : Knows) : Type 0 where
  pub seat : w ≡ (with_posted v.0 s.first, v.1)
  pub capped : found ≤ no_key
  pub below : IsBelow found v.0.posted
  pub own : KnowsAll v.0 → IsLeastKey found (λ k. number_count k v.0.posted)
  pub event : Happens share (Post v.0.number s.first) v.0 w.0

-- A look at the least key. Where it is smaller than a node's key, it is the event that leaves the node out.
pub record WhenLooked (share : ℕ) (s : Made) (v : Knows) (found : ℕ) (w : Knows) : Type 0 where
  pub seat : w ≡ (with_looked v.0 found, v.1)
  pub capped : found ≤ no_key
  pub below : IsBelow found v.0.posted
  pub own : KnowsAll v.0 → IsLeastKey found (λ k. number_count k v.0.posted)
  pub event : (node : Turns) → found < key node → Happens share (Cut v.0.number node found) v.0 w.0

-- A look at the living, which changes nothing. It tells each seat of its own lists, and the seat that knows all what it learns.
pub record WhenAlive (s : Made) (v : Knows) (found : ℕ) (w : Knows) : Type 0 where
  pub seat : w ≡ v
  pub lists : (words : TableId) → OwnLists (seat_of words v.0)
  pub own : KnowsAll v.0 → (words : TableId) → Learns (seat_of words v.0) found
