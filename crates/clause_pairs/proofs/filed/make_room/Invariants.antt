use Rattle.std.proofs.Common.{◌≡◌, length}
use Rattle.clause_pairs.specs.Filed.{AreAsBefore}
use Rattle.clause_pairs.proofs.filed.make_room.Given as goal

abbrev pub invariant-loop-number : goal.invariant-loop-number
invariant-loop-number l = record {
  same : AreAsBefore l.fn.lists.items l.lists.items;
  len : length l.lists.items ≡ l._number;
}
