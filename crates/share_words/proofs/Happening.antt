-- A step by one seat as an event of the core.
use Rattle.std.proofs.Common.{◌≡◌, ℕ, ◌<◌, ◌≤◌, List, [], length, set, arith}
use mathlib.Core.Option.{some}
use lib.ListN.{get_elem?}
use Rattle.atomic_table.specs.Table.{State}
use Rattle.branch_core.specs.Paths.{Turns}
use Rattle.branch_core.specs.Core.{EventValue, CoreValue, after}
use Rattle.share_words.specs.declared.plays.SeatView.{SeatView}
use Rattle.share_words.specs.Rule.{word_at}
use Rattle.share_words.specs.Kept.{Kept}
use Rattle.share_words.specs.Shown.{ShowsCore, HasShownCore, steps}
use Rattle.share_words.specs.Happens.{Happens, IsEventThere}
use Rattle.share_words.proofs.Counts.{set_place}
use Rattle.share_words.proofs.Stays.{has_word}

abbrev S : Type 0
S = State (Unit {0}) SeatView

abbrev C : Type 0
C = List (ℕ × Unit {0})

-- A step by one seat that is an event of the core.
pub happens_here : (share id : ℕ) (event : EventValue) (v w : SeatView) (s : S) (words : List ℕ) → Kept share s → get_elem? s.views id ≡ some v → Kept share record { words = words; homes = s.homes; views = set s.views id w } → ((path : Turns) → word_at s.words path ≤ word_at words path)
    → IsEventThere share event s record { words = words; homes = s.homes; views = set s.views id w } → Happens share event v w
happens_here share id event v w s words kept at kept_later rises is_event = record {
  id = id;
  before = s;
  later = record { words = words; homes = s.homes; views = set s.views id w };
  step = record { kept = kept; place = at; kept_later = kept_later; place_later = set_place s.views id v w at; rises = rises };
  is_event = is_event;
}

-- The state that follows the event is one of the core.
pub show_event : (share : ℕ) (event : EventValue) (before later : S) → IsEventThere share event before later → HasShownCore share before → HasShownCore share later
show_event share event before later e shown = record { core = after shown.core event; reached = steps event shown.reached (e.legal shown.core shown.shows); shows = e.follows shown.core shown.shows }

-- The state that is shown stays.
pub show_same : (share : ℕ) (before later : S) → ((core : CoreValue) → ShowsCore share before core → ShowsCore share later core) → HasShownCore share before → HasShownCore share later
show_same share before later stay shown = record { core = shown.core; reached = shown.reached; shows = stay shown.core shown.shows }

-- There is a word for the living.
pub live_inside : (share : ℕ) (s : S) → Kept share s → 1 < length s.words
live_inside share s kept = let z = kept.sized in let h = has_word share [] (omega arith) in omega arith
