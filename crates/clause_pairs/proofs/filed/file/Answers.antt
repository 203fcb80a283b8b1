use Rattle.std.proofs.Common.{refl}
use Rattle.clause_pairs.proofs.Filing.{files_at}
use Rattle.clause_pairs.proofs.filed.file.Goals as goal

pub returns : goal.returns
returns c =
    let made = c.in_ok-make_room.ensures in
    files_at c.args.number c.args.positive c.args.at c.args.lists.now.items c.make_room.new.lists.items _ c.index_mut.result.now c.put.new.self made.same made.room c.index_mut.ensures.value refl
    c.in_ok-put.ensures.here c.in_ok-put.ensures.others
