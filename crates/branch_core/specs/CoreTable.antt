-- The core with its states in a table.
use Rattle.std.specs.Prelude.{◌≡◌, ◌≤◌, ℕ, ◌+◌, ◌^◌, List, [], ◌∷◌, length, slice_get, Option, Some, None}
use Rattle.branch_core.specs.Paths.{Turns, code}
use Rattle.branch_core.specs.Parts.{RecordValue}
use Rattle.branch_core.specs.Core.{StateValue, Unknown, Offered, Held, Ended, CoreValue}

-- What a contract sees of a core: the state of a path stands at the place of its code.
pub record CoreTable : Type 0 where
  pub share : ℕ
  pub states : List StateValue
  pub least : Option ℕ
  pub kept : List RecordValue

-- The state that was found, or Unknown past the end of the table.
abbrev pub state_or_unknown : Option StateValue → StateValue
state_or_unknown (Some state) = state
state_or_unknown None = Unknown

-- The state at the place of the path's code.
abbrev pub state_at : List StateValue → Turns → StateValue
state_at states turns = state_or_unknown (slice_get states (code turns))

-- The core that the table stands for.
abbrev pub core_value : CoreTable → CoreValue
core_value table = record { share = table.share; states = state_at table.states; least = table.least; kept = table.kept }

-- 1 for the state of a path that may still end, and 0 for that of one that has ended.
abbrev pub may_end : StateValue → ℕ
may_end Unknown = 1
may_end Offered = 1
may_end (Held by) = 1
may_end Ended = 0

-- How many places have a path that has not ended.
abbrev pub not_ended : List StateValue → ℕ
not_ended [] = 0
not_ended (state ∷ states) = may_end state + not_ended states

-- The table has a place for each path of at most `share` turns, and there is room for a record of each that has not ended.
pub record HasTableRoom (share : ℕ) (states : List StateValue) (room : ℕ) : Type 0 where
  pub small : share ≤ 16
  pub places : length states ≡ 2 ^ (share + 1)
  pub records : not_ended states ≤ room
