use Rattle.std.proofs.Common.{rules, ◌≡◌, get_or, arith}
use Rattle.me_unify.proofs.Steps.{at_zero, longer_twice, closed_more}
use Rattle.me_unify.proofs.links.Links.close.Goals as goal

pub returns-in_err-step-clause-same : goal.returns-in_err-step-clause-same
returns-in_err-step-clause-same c t h fits old =
    let now = c.links.invariant.same t h fits old in
    let left : c.index-a.result.now ≡ get_or c.links.self.froms.items c.links.k 0 = at_zero c.links.self.froms.items c.links.k _ (omega arith) c.index-a.ensures in
    let right : c.index-b.result.now ≡ get_or c.links.self.tos.items c.links.k 0 = at_zero c.links.self.tos.items c.links.k _ (omega arith) c.index-b.ensures in
    c.step.ensures.same t h fits now (rw (left, right) (now c.links.k (omega arith)))

pub returns-then-not-branch-clause-same : goal.returns-then-not-branch-clause-same
returns-then-not-branch-clause-same c t h fits old =
    let now = c.links.invariant.same t h fits old in
    let left : c.index-a.result.now ≡ get_or c.links.self.froms.items c.links.k 0 = at_zero c.links.self.froms.items c.links.k _ (omega arith) c.index-a.ensures in
    let right : c.index-b.result.now ≡ get_or c.links.self.tos.items c.links.k 0 = at_zero c.links.self.tos.items c.links.k _ (omega arith) c.index-b.ensures in
    c.step.ensures.same t h fits now (rw (left, right) (now c.links.k (omega arith)))

pub returns-then-not-branch-clause-no : goal.returns-then-not-branch-clause-no
returns-then-not-branch-clause-no c z t h fits old =
    let now = c.links.invariant.same t h fits old in
    let left : c.index-a.result.now ≡ get_or c.links.self.froms.items c.links.k 0 = at_zero c.links.self.froms.items c.links.k _ (omega arith) c.index-a.ensures in
    let right : c.index-b.result.now ≡ get_or c.links.self.tos.items c.links.k 0 = at_zero c.links.self.tos.items c.links.k _ (omega arith) c.index-b.ensures in
    c.in_ok-step.ensures.no c.if-not-branch.true t h fits (rw (left, right) (now c.links.k (omega arith)))

pub links-preserved : goal.links-preserved
links-preserved c =
    let left : c.index-a.result.now ≡ get_or c.links.self.froms.items c.links.k 0 = at_zero c.links.self.froms.items c.links.k _ (omega arith) c.index-a.ensures in
    let right : c.index-b.result.now ≡ get_or c.links.self.tos.items c.links.k 0 = at_zero c.links.self.tos.items c.links.k _ (omega arith) c.index-b.ensures in
    record {
      forest = c.step.ensures.forest;
      within = omega (arith, c.step.ensures.more.longer);
      size = search (rules, c.step.ensures.size, c.links.invariant.size);
      directed = c.step.ensures.directed;
      more = longer_twice _ _ _ c.links.invariant.more c.step.ensures.more;
      closed = closed_more c.args.nodes.now c.links.self c.step.new.self c.links.k c.step.ensures.more (omega arith) c.links.invariant.closed
          (rw (left, right) at (c.in_ok-step.ensures.yes c.if-not-branch.false)) (λ p q. c.links.invariant.directed c.links.k p q (omega arith) (omega arith));
      same = λ t h fits old. let now = c.links.invariant.same t h fits old in c.step.ensures.same t h fits now (rw (left, right) (now c.links.k (omega arith)));
    }

pub returns-clause-yes : goal.returns-clause-yes
returns-clause-yes c z j p q lt = c.links.invariant.closed j p q (omega arith)
