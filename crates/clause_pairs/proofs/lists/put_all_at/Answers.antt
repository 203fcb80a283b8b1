use Rattle.clause_pairs.specs.Values.{lists_of}
use Rattle.clause_pairs.specs.Lists.{put_to, put_all}
use Rattle.clause_pairs.proofs.Changed.{all_rest, all_front, all_still}
use Rattle.clause_pairs.proofs.lists.put_all_at.Goals as goal

pub loop-at-preserved : goal.loop-at-preserved
loop-at-preserved c =
    let i = c.loop-at.invariant in
    let f = put_to c.args.k in
    let lists = lists_of c.args.lists.now.items in
    let now = lists_of c.loop-at.lists.items in
    let next = lists_of c.put_at.new.lists.items in
    let qs = c.args.places.now in
    let at = c.in_ok-put_at.ensures.ok in
    record {
      rest = all_rest f lists now next (put_all f lists qs) qs c.loop-at.at-index _ c.loop-at-test.true at i.rest;
      front = all_front f lists now next (put_all f lists qs) qs c.loop-at.at-index _ c.loop-at-test.true at i.front;
      places = all_still f lists now next (put_all f lists qs) qs c.loop-at.at-index _ c.loop-at-test.true at i.places;
    }
