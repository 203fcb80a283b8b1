use Rattle.std.proofs.Common.{◌≡◌, ℕ, length, Option, subst, arith}
use Rattle.std.specs.Vec.Iter.{into_iter_items}
use Rattle.answer_check.specs.Entries.{IsAdded}
use Rattle.answer_check.proofs.LinesAdded.{all_entered, entered_next, none_by, nothing_left, one_entered, wrong_entered}
use Rattle.answer_check.proofs.model.enter_lines.Goals as goal

pub returns-in-Some-2 : goal.returns-in-Some-2
returns-in-Some-2 c =
    let line = c.in-Some.line in
    let rest = into_iter_items c.next.new.self in
    let old = entered_next c.args.start c.args.lines.items c.loop-line.context _ line rest c.in-Some.ensures.steps.0 c.loop-line.invariant in
    let P : Option ℕ → Type 0 = λ z. IsAdded c.loop-line.context c.add_line.new.context line z in
    let wrong = subst P c.in-Some-2.is c.in_ok-at.ensures in
    wrong_entered c.args.start c.args.lines.items c.loop-line.context line rest old c.in-Some-2.at wrong.0 wrong.1

pub loop-line-preserved : goal.loop-line-preserved
loop-line-preserved c =
    let line = c.in-Some.line in
    let rest = into_iter_items c.next.new.self in
    let old = entered_next c.args.start c.args.lines.items c.loop-line.context _ line rest c.in-Some.ensures.steps.0 c.loop-line.invariant in
    let P : Option ℕ → Type 0 = λ z. IsAdded c.loop-line.context c.add_line.new.context line z in
    let added = subst P (none_by c.in_ok-at.field-0 c.in_default.not-Some) c.in_ok-at.ensures in
    one_entered c.args.start c.args.lines.items c.loop-line.context line rest old c.add_line.new.context added.0 added.1

pub returns : goal.returns
returns c =
    let it = c.loop-line.line-iterator in
    let ended : length (into_iter_items it) ≡ 0 = omega (arith, c.in-None.ensures.steps.0, it.rest.ok) in
    all_entered c.args.start c.args.lines.items c.loop-line.context (into_iter_items it) (nothing_left (into_iter_items it) ended) c.loop-line.invariant
