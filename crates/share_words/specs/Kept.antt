-- The rule of the words: what holds between any two steps, whatever the order in which the seats make them.
use Rattle.std.specs.Prelude.{◌≡◌, ℕ, ◌≤◌, length}
use Rattle.atomic_table.specs.Table.{State}
use Rattle.share_words.specs.declared.plays.SeatView.{SeatView}
use Rattle.share_words.specs.Counts.{Each}
use Rattle.share_words.specs.Rule.{words_of, PathsTell, LiveTells, LeastTells, LooksTell, SeatsNumbered, IsSeat}
use Rattle.share_words.specs.Shown.{HasShownCore}

pub record Kept (share : ℕ) (s : State (Unit {0}) SeatView) : Type 0 where
  pub few : share ≤ 16
  pub sized : length s.words ≡ words_of share
  pub paths : PathsTell s.words s.views
  pub live : LiveTells s.words s.views
  pub least : LeastTells s.words s.views
  pub looks : LooksTell s.views
  pub numbered : SeatsNumbered s.views
  pub seats : Each IsSeat s.views
  pub shown : HasShownCore share s
