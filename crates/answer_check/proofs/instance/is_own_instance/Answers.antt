use Rattle.answer_check.proofs.ClauseLines.{all_owned, not_own, not_owned, own_tells}
use Rattle.answer_check.proofs.instance.is_own_instance.Goals as goal

pub returns-then-not-are_own_literals : goal.returns-then-not-are_own_literals
returns-then-not-are_own_literals c =
    let other = not_owned c.args.functions c.args.line.now _ c.as_slice.result.now c.are_own_literals.result c.as_slice.ensures c.line.view_is c.are_own_literals.ensures c.if-not-are_own_literals.true in
    not_own c.args.problem.now c.args.functions c.args.line.now c.requires.known other

pub returns : goal.returns
returns c =
    let owned = all_owned c.args.functions c.args.line.now _ c.as_slice.result.now c.are_own_literals.result c.as_slice.ensures c.line.view_is c.are_own_literals.ensures c.if-not-are_own_literals.false in
    own_tells c.args.problem.now c.args.functions c.args.line.now c.requires.known _ c.as_slice-2.result.now c.as_slice-2.ensures c.problem.view_is owned c.has_clause.result c.has_clause.ensures
