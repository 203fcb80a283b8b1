use Rattle.std.proofs.Common.{◌≡◌}
use Rattle.clause_pairs.specs.Lists.{put_to}
use Rattle.clause_pairs.proofs.Rows.{changed, unchanged, on_ok, on_err}
use Rattle.clause_pairs.proofs.lists.put_at.Goals as goal

pub returns-clause-ok : goal.returns-clause-ok
returns-clause-ok c =
    let row = c.index_mut-places.result.now in
    let old = c.index_mut.result.now in
    let new = c.put_number.new.list in
    on_ok c.put_number.result (new.items ≡ put_to c.args.k old.items) _
    (λ is. changed c.args.lists.now.items c.args.at row c.requires c.index_mut-places.ensures.value (put_to c.args.k) old new c.index_mut.ensures.value is)
    c.put_number.ensures.ok

pub returns-clause-err : goal.returns-clause-err
returns-clause-err c =
    let row = c.index_mut-places.result.now in
    let old = c.index_mut.result.now in
    let new = c.put_number.new.list in
    on_err c.put_number.result (new.items ≡ old.items) _
    (λ is. unchanged c.args.lists.now.items c.args.at row c.requires c.index_mut-places.ensures.value old new c.index_mut.ensures.value is)
    c.put_number.ensures.err
