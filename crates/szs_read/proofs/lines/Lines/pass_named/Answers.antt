use Rattle.std.proofs.Common.{◌++◌}
use Rattle.std.specs.Prelude.{codes}
use Rattle.szs_read.proofs.Cutting.{named_line}
use Rattle.szs_read.proofs.Passing.{named_passed, other_line}
use Rattle.szs_read.proofs.lines.Lines.pass_named.Goals as goal

pub returns-clause-one : goal.returns-clause-one
returns-clause-one c = λ _ o. named_passed _ _ _ _ _ (c.is_named.ensures.named c.if-not-is_named.false) c.pass.ensures.parts c.pass.ensures.passed o

pub returns-in_default-clause-other : goal.returns-in_default-clause-other
returns-in_default-clause-other c = λ _ rest o n e. c.in_default.ensures.none (c.args.head.now ++ c.args.name.now ++ codes "\n") rest (named_line c.args.head.now c.args.name.now o n) e

pub returns-then-not-is_named-clause-other : goal.returns-then-not-is_named-clause-other
returns-then-not-is_named-clause-other c = λ _ rest o n e. other_line _ _ _ _ rest c.in-Some.ensures.line c.in-Some.ensures.front (c.is_named.ensures.other c.if-not-is_named.true) o n e
