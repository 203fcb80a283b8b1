use Rattle.std.proofs.Common.{◌≡◌, true, refl, subst, length, arith}
use Rattle.answer_check.proofs.Matching.{MatchedSoFar, matched_there, matched_more, matched_all}
use Rattle.answer_check.proofs.instance.matches.Goals as goal

pub returns-then-not-branch : goal.returns-then-not-branch
returns-then-not-branch c =
    let ls = c.args.literals.now in
    let ms = c.args.special.now in (
      λ h. absurd (cc h),
      λ m.
          let there = matched_there ls ms c.loop-k.k c.index-literals-k.result c.index-special-k.result c.loop-k.bindings c.loop-k-test.true c.if-literals-special.false c.index-literals-k.is c.index-special-k.is c.loop-k.invariant m in
          let yes : c.in_ok-match_literal.field-0 ≡ true = c.in_ok-match_literal.ensures.exact.1 there in
          absurd (cc (yes, c.if-not-branch.true)),
    )

pub loop-k-preserved : goal.loop-k-preserved
loop-k-preserved c =
    matched_more c.args.literals.now c.args.special.now c.loop-k.k c.index-literals-k.result c.index-special-k.result c.loop-k-test.true c.if-literals-special.false c.index-literals-k.is c.index-special-k.is c.loop-k.bindings _ c.loop-k.invariant
    (c.in_ok-match_literal.ensures.exact.0 c.if-not-branch.false) (c.in_ok-match_literal.ensures.yes c.if-not-branch.false)

pub returns : goal.returns
returns c =
    let ls = c.args.literals.now in
    let ms = c.args.special.now in
    let end : c.loop-k.k ≡ length ls = omega (arith, c.loop-k-test.false, c.loop-k.auto.k-end) in
    (λ h. matched_all ls ms c.loop-k.bindings c.if-literals-special.false (subst (λ n. MatchedSoFar ls ms n c.loop-k.bindings) end c.loop-k.invariant), λ m. refl)
