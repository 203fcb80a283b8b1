use Rattle.std.proofs.Common.{rules, ◌≡◌, Bool, false, subst}
use Rattle.steal_pool.specs.Ledger.{explorer_tree, IsKept}
use Rattle.steal_pool.proofs.Gathering.{explored}
use Rattle.steal_pool.proofs.pool.told.Goals as goal

pub returns-else-lacks-clause-explored : goal.returns-else-lacks-clause-explored
returns-else-lacks-clause-explored g c =
    let lead = c.args.lead in
    let problem = g.E.Explore.problem c.args.explorer.now in
    let bounds = g.E.Explore.bounds c.args.explorer.now in
    let share = g.E.Explore.share c.args.explorer.now in
    let none : lead.lacks ≡ false = search rules in
    let P : Bool → Type 0 = λ l. IsKept (explorer_tree problem bounds share) c.args.words l lead.records.items lead.seat in
    explored problem bounds share c.args.words lead.records.items lead.seat (subst P none c.requires.kept) c.requires.lists c.requires.done
