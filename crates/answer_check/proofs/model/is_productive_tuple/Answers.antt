use Rattle.answer_check.proofs.Productive.{productive_exact}
use Rattle.answer_check.proofs.model.is_productive_tuple.Goals as goal

pub returns-in-Some : goal.returns-in-Some
returns-in-Some c =
    productive_exact c.args.context.now c.args.clause.now.literals c.args.tuple.now.items c.in_ok-unifier.field-0 c.in-Some.unifier c.in-Some.is c.in_ok-unifier.ensures.exact c.in_ok-unifier.ensures.unifier c.is_productive.result c.is_productive.ensures
