use Rattle.std.proofs.Common.{[], map, refl, sym, subst, ap}
use Rattle.branch_core.specs.Joined.{as_they_are}
use Rattle.branch_core.specs.PartViews.{part_value}
use Rattle.branch_walk.specs.Tallies.{AreClosedOff}
use Rattle.branch_walk.proofs.tally.Tally.new.Goals as goal

pub returns-clause-tally : goal.returns-clause-tally
returns-clause-tally c list_bound =
    let none = ap (map part_value) c.requires in
    record { earlier = []; tail = []; parts_are = none; last_is = refl; joined = as_they_are; apart = subst AreClosedOff (sym none) (λ next. tt) }
