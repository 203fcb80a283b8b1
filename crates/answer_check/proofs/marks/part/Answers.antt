use Rattle.std.proofs.Common.{◌≡◌, ◌∷◌, ◌++◌, List, ℕ, drop, sym, subst, ◌∙◌}
use Rattle.szs_read.specs.Lines.{lines}
use Rattle.answer_check.proofs.Marking.{at_mark, passed_next, whole_rest}
use Rattle.answer_check.proofs.marks.part.Goals as goal

pub returns-then-is_mark_line-clause-answer : goal.returns-then-is_mark_line-clause-answer
returns-then-is_mark_line-clause-answer c =
    let line = c.split_line.result.0.now in
    let rest = c.split_line.result.1.now in
    let left = whole_rest c.args.input.now c.loop-at.at in
    let cut = subst (λ (z : List ℕ). lines z ≡ line ∷ lines rest) left c.split_line.ensures.cut in
    let whole = subst (λ (z : List ℕ). z ≡ line ++ rest) left c.split_line.ensures.whole in
    (at_mark c.args.input.now c.loop-at.at c.loop-at.invariant line rest cut whole (sym c.is_mark_line.ensures ∙ c.if-is_mark_line.true)).1

pub loop-at-preserved : goal.loop-at-preserved
loop-at-preserved c =
    let line = c.split_line.result.0.now in
    let rest = c.split_line.result.1.now in
    let left = whole_rest c.args.input.now c.loop-at.at in
    let cut = subst (λ (z : List ℕ). lines z ≡ line ∷ lines rest) left c.split_line.ensures.cut in
    let whole = subst (λ (z : List ℕ). z ≡ line ++ rest) left c.split_line.ensures.whole in
    passed_next c.args.input.now c.loop-at.at line rest c.loop-at.invariant cut whole (sym c.is_mark_line.ensures ∙ c.if-is_mark_line.false)
