use Rattle.std.proofs.Common.{◌∙◌, ap}
use Rattle.branch_core.specs.Parts.{listed}
use Rattle.branch_walk.proofs.ListedLists.{light_is_whole, leaf_list_unique}
use Rattle.branch_walk.proofs.listing.leaf_listed.Goals as goal

pub returns-in-Ok : goal.returns-in-Ok
returns-in-Ok g c list leaf =
    let a = c.args in
    let same = leaf_list_unique a.problem.now a.bounds.now (g.V.View.context a.branch.now) a.clause a.tuple.now.items c.requires.closes c.in-Ok.list.items list c.in-Ok.ensures.list leaf in
    light_is_whole a.bounds.now.list c.in-Ok.list.items c.in-Ok.ensures.light ∙ ap (listed a.bounds.now.list) same
