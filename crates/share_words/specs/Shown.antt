-- The state of the core that the words and the lists show.
use Rattle.std.specs.Prelude.{◌≡◌, ℕ, ◌<◌, nat_eq, List, slice_index, Option, Some, None, if◌then◌else◌}
use Rattle.atomic_table.specs.Table.{State}
use Rattle.branch_core.specs.Paths.{Turns}
use Rattle.branch_core.specs.Core.{Actor, StateValue, Unknown, Offered, Held, Ended, EventValue, CoreValue, first_core, IsLegal, after}
use Rattle.share_words.specs.declared.plays.SeatView.{SeatView}
use Rattle.share_words.specs.Counts.{path_count, Each}
use Rattle.share_words.specs.Rule.{no_key, word_at}

-- The least key that the least word shows.
abbrev pub least_shown : ℕ → Option ℕ
least_shown word = if nat_eq word no_key then None else Some word

-- What a path's word shows: 0 that the path is Unknown, 1 that it is Offered.
pub record WordsShow (core : CoreValue) (words : List ℕ) : Type 0 where
  pub unknown : (path : Turns) → word_at words path ≡ 0 → core.states path ≡ Unknown
  pub offered : (path : Turns) → word_at words path ≡ 1 → core.states path ≡ Offered
  pub least : core.least ≡ least_shown (slice_index words 0)

-- What a seat's lists show of the paths that it took, whose words are 2: each is Held by the seat, and Ended once its ended list has it.
pub record SeatShows (core : CoreValue) (v : SeatView) : Type 0 where
  pub held : (path : Turns) → 0 < path_count path v.taken → path_count path v.ended ≡ 0 → core.states path ≡ Held v.number
  pub ended : (path : Turns) → 0 < path_count path v.ended → core.states path ≡ Ended

-- The words and the lists show this state.
pub record ShowsCore (share : ℕ) (s : State (Unit {0}) SeatView) (core : CoreValue) : Type 0 where
  pub shared : core.share ≡ share
  pub words : WordsShow core s.words
  pub seats : Each (SeatShows core) s.views

-- A seat takes another one in: what one actor holds the other one holds.
abbrev pub handed : Actor → Actor → StateValue → StateValue
handed from to Unknown = Unknown
handed from to Offered = Offered
handed from to (Held by) = Held (if nat_eq by from then to else by)
handed from to Ended = Ended

abbrev pub moved : Actor → Actor → CoreValue → CoreValue
moved from to core = record core { states = λ path. handed from to (core.states path) }

-- A state of the core that legal events lead to, with holders that hand over what they hold.
pub data IsReachable (share : ℕ) : CoreValue → Type 0 where
  begins : IsReachable share (first_core share)
  steps : {core : CoreValue} (event : EventValue) → IsReachable share core → IsLegal core event → IsReachable share (after core event)
  moves : {core : CoreValue} (from to : Actor) → IsReachable share core → IsReachable share (moved from to core)

-- They show a state of the core.
pub record HasShownCore (share : ℕ) (s : State (Unit {0}) SeatView) : Type 0 where
  pub core : CoreValue
  pub reached : IsReachable share core
  pub shows : ShowsCore share s core
