-- The program's events and states as contracts see them.
use Rattle.std.specs.Prelude.{map}
use Rattle.branch_core.specs.Core.{EventValue, StateValue}
use Rattle.branch_core.specs.Core as core
use Rattle.branch_core.specs.PartViews.{part_value}
use Rattle.branch_core.specs.declared.event.Event.{Event}
use Rattle.branch_core.specs.declared.event.Event.TheVariants.{Offer, Take, Post, Cut, End}
use Rattle.branch_core.specs.declared.event.PathState.{PathState}
use Rattle.branch_core.specs.declared.event.PathState.TheVariants.{Unknown, Offered, Held, Ended}

-- The event as contracts see it.
abbrev pub event_value : Event → EventValue
event_value (Offer by parent path) = core.Offer by parent path
event_value (Take by path) = core.Take by path
event_value (Post by key) = core.Post by key
event_value (Cut by node least) = core.Cut by node least
event_value (End by path parts) = core.End by path (map part_value parts.items)

-- The state of a path as contracts see it.
abbrev pub state_value : PathState → StateValue
state_value Unknown = core.Unknown
state_value Offered = core.Offered
state_value (Held by) = core.Held by
state_value Ended = core.Ended
