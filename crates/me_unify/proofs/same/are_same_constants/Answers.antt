use Rattle.std.proofs.Common.{sym, arith}
use Rattle.me_terms.specs.TermViews.{term_value}
use Rattle.me_unify.proofs.OneAtom.{same_next, same_all}
use Rattle.me_unify.proofs.same.are_same_constants.Goals as goal

pub loop-k-preserved : goal.loop-k-preserved
loop-k-preserved c s r =
    same_next s r c.args.left.now.items c.args.right.now.items c.loop-k.k (term_value c.in-Some.one.now) (term_value c.in-Some-get.other.now) (sym c.in-Some.ensures.item) (sym c.in-Some-get.ensures.item)
    (c.loop-k.invariant s r) (c.are_one_constant.ensures c.if-not-are_one_constant.false s r)

pub returns : goal.returns
returns c z s r = same_all s r c.args.left.now.items c.args.right.now.items c.loop-k.k (omega arith) (omega arith) (c.loop-k.invariant s r)
