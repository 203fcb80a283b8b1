use Rattle.clause_pairs.specs.Lists.{without}
use Rattle.clause_pairs.proofs.Rows.{changed}
use Rattle.clause_pairs.proofs.lists.take_at.Goals as goal

pub returns : goal.returns
returns c =
    let row = c.index_mut-places.result.now in
    let old = c.index_mut.result.now in
    changed c.args.lists.now.items c.args.at row c.requires c.index_mut-places.ensures.value (without c.args.k) old c.take_number.new.list c.index_mut.ensures.value c.take_number.ensures
