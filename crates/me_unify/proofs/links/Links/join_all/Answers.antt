use Rattle.std.proofs.Common.{rules, ℕ, get_or, below_more, arith}
use Rattle.me_unify.specs.Linked.{Alike}
use Rattle.me_unify.proofs.Steps.{alike_longer, longer_twice}
use Rattle.me_unify.proofs.links.Links.join_all.Goals as goal

pub returns-in_err-join-clause-same : goal.returns-in_err-join-clause-same
returns-in_err-join-clause-same c h old each = c.join.ensures.same h (c.loop-i.invariant.same h old each) (each c.loop-i.i c.loop-i-test.true)

pub loop-i-preserved : goal.loop-i-preserved
loop-i-preserved c = record {
  forest = c.join.ensures.forest;
  size = search (rules, c.join.ensures.size, c.loop-i.invariant.size);
  directed = c.join.ensures.directed;
  more = longer_twice _ _ _ c.loop-i.invariant.more c.join.ensures.more;
  same = λ h old each. c.join.ensures.same h (c.loop-i.invariant.same h old each) (each c.loop-i.i c.loop-i-test.true);
  alike = let P : ℕ → Type 0 = λ j. Alike c.join.new.self (get_or c.args.xs.now j 0) (get_or c.args.ys.now j 0) in
      below_more P c.loop-i.i (λ j lt. alike_longer c.loop-i.self c.join.new.self _ _ c.join.ensures.more (c.loop-i.invariant.alike j lt)) c.in_ok-join.ensures.alike;
}

pub returns-clause-alike : goal.returns-clause-alike
returns-clause-alike c i lt h r = c.loop-i.invariant.alike i (omega arith) h r
