use Rattle.std.proofs.Common.{◌≡◌, take, drop}
use Rattle.std.specs.List.{All}
use Rattle.clause_pairs.specs.Values.{lists_of}
use Rattle.clause_pairs.specs.Lists.{HasPlace, put_to, put_all}
use Rattle.clause_pairs.proofs.lists.put_all_at.Given as goal

-- The places that are left give the whole.
abbrev pub invariant-loop-at : goal.invariant-loop-at
invariant-loop-at l = record {
  rest : put_all (put_to l.k) (lists_of l.lists.items) (drop l.at-index l.places) ≡ put_all (put_to l.k) (lists_of l.fn.lists.items) l.places;
  front : lists_of l.lists.items ≡ put_all (put_to l.k) (lists_of l.fn.lists.items) (take l.at-index l.places);
  places : All (HasPlace (lists_of l.lists.items)) l.places;
}
