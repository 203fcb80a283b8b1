-- What it means that a step on the words is an event of the core.
use Rattle.std.specs.Prelude.{◌≡◌, ℕ, ◌≤◌}
use mathlib.Core.Option.{some}
use lib.ListN.{get_elem?}
use Rattle.atomic_table.specs.Table.{State}
use Rattle.branch_core.specs.Paths.{Turns}
use Rattle.branch_core.specs.Core.{EventValue, CoreValue, IsLegal, after}
use Rattle.share_words.specs.declared.plays.SeatView.{SeatView}
use Rattle.share_words.specs.Rule.{word_at}
use Rattle.share_words.specs.Shown.{ShowsCore}
use Rattle.share_words.specs.Kept.{Kept}
use Rattle.share_words.specs.Seats.{WorkerSeatValue, seat_of}

-- The words and the seats before and after a step by one seat, which both keep the rule: a path's word rises or stays.
pub record IsStep (share id : ℕ) (before later : State (Unit {0}) SeatView) (v w : SeatView) : Type 0 where
  pub kept : Kept share before
  pub place : get_elem? before.views id ≡ some v
  pub kept_later : Kept share later
  pub place_later : get_elem? later.views id ≡ some w
  pub rises : (path : Turns) → word_at before.words path ≤ word_at later.words path

-- In whatever state the words show before, the event is legal, and after the step they show the state that follows it.
pub record IsEventThere (share : ℕ) (event : EventValue) (before later : State (Unit {0}) SeatView) : Type 0 where
  pub legal : (core : CoreValue) → ShowsCore share before core → IsLegal core event
  pub follows : (core : CoreValue) → ShowsCore share before core → ShowsCore share later (after core event)

-- A step by a seat of words of this share, which knew v before it and knows w after it, is this event.
pub record Happens (share : ℕ) (event : EventValue) (v w : SeatView) : Type 0 where
  pub id : ℕ
  pub before : State (Unit {0}) SeatView
  pub later : State (Unit {0}) SeatView
  pub step : IsStep share id before later v w
  pub is_event : IsEventThere share event before later

-- The step by which the old seat became the new one is this event of the core, whose share is that of the words.
pub record Happened (share : ℕ) (event : EventValue) (old new : WorkerSeatValue) : Type 0 where
  pub v : SeatView
  pub w : SeatView
  pub is_old : seat_of old.words v ≡ old
  pub is_new : seat_of old.words w ≡ new
  pub happens : Happens share event v w
