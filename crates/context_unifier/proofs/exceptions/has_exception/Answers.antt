use Rattle.std.proofs.Common.{IsTrue, refl, sym, ◌∙◌, arith}
use Rattle.context_unifier.proofs.Asked.{tells_same, some_exception, no_exception, none_yet}
use Rattle.context_unifier.proofs.exceptions.has_exception.Goals as goal

pub returns-then-branch : goal.returns-then-branch
returns-then-branch g c d tells =
    let context = g.V.View.context c.args.view.now in
    let same = tells_same _ _ _ _ c.args.literal.now.atom d (sym c.loop-j.invariant.one) (sym c.loop-j.invariant.other) tells in (
      λ t. some_exception context c.loop-j.j c.args.entry.now d ((c.in_ok-excepts.ensures.exact d same).0 c.if-branch.true),
      λ x. refl,
    )

pub loop-j-preserved : goal.loop-j-preserved
loop-j-preserved g c =
    let context = g.V.View.context c.args.view.now in
    record {
      one = c.in_ok-excepts.ensures.one ∙ c.loop-j.invariant.one;
      other = c.in_ok-excepts.ensures.other ∙ c.loop-j.invariant.other;
      none = λ d tells.
          let same = tells_same _ _ _ _ c.args.literal.now.atom d (sym c.loop-j.invariant.one) (sym c.loop-j.invariant.other) tells in
          none_yet context c.loop-j.j c.args.entry.now d (c.loop-j.invariant.none d tells) (λ x. let t : IsTrue c.in_ok-excepts.field-0 = (c.in_ok-excepts.ensures.exact d same).1 x in cc (t, c.if-branch.false));
    }

pub returns : goal.returns
returns g c d tells =
    let context = g.V.View.context c.args.view.now in
    (λ t. cc, λ x. absurd (no_exception context c.loop-j.j c.args.entry.now d (omega arith) (c.loop-j.invariant.none d tells) x))
