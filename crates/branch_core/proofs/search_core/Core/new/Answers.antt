use Rattle.branch_core.proofs.CoreTables.{first_shown, first_room, room_fits}
use Rattle.branch_core.proofs.search_core.Core.new.Goals as goal

pub invariant_of-result : goal.invariant_of-result
invariant_of-result c =
    let fits = room_fits c.args.share c.requires in
    first_room c.args.share _ _ _ _ (c.in_ok-states.ensures.items_if_clones_equal (λ y h. h)) fits.1 c.requires c.in_ok-kept.ensures.exact c.in_ok-kept.ensures.len

pub returns : goal.returns
returns c =
    let fits = room_fits c.args.share c.requires in
    first_shown c.args.share _ _ _ (c.in_ok-states.ensures.items_if_clones_equal (λ y h. h)) c.in_ok-kept.ensures.items fits.0
