use Rattle.std.proofs.Common.{◌≡◌, [], ◌∷◌, ◌++◌, length, ap, arith}
use Rattle.std.proofs.lemmas.List.{length_push}
use Rattle.clause_pairs.proofs.Filing.{no_places, room_more}
use Rattle.clause_pairs.proofs.filed.make_room.Goals as goal

pub loop-number-preserved : goal.loop-number-preserved
loop-number-preserved c =
    let now = c.loop-number.lists.items in
    let is : c.push.new.self.items ≡ now ++ no_places ∷ [] = cc (c.in_ok-push.ensures.items, c.new.ensures) in
    let len = ap length is in
    let pushed = length_push now no_places in
    record {
      same = room_more c.args.lists.now.items now c.push.new.self.items is c.loop-number.invariant.same;
      len = omega (arith, len, pushed, c.loop-number.invariant.len);
    }
