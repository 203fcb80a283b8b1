use Rattle.std.proofs.Common.{sym, ◌∙◌, arith}
use Rattle.tptp_cnf.proofs.Constants.{found, searched_more}
use Rattle.tptp_cnf.proofs.builder.first_constant.Goals as goal

pub functions-preserved : goal.functions-preserved
functions-preserved c = searched_more _ _ c.functions.invariant (omega arith) (sym c.is_constant_at.ensures ∙ c.if-is_constant_at.false)

pub returns-then-is_constant_at-clause-some : goal.returns-then-is_constant_at-clause-some
returns-then-is_constant_at-clause-some c = (found _ _ c.functions.invariant (sym c.is_constant_at.ensures ∙ c.if-is_constant_at.true)).0

pub returns-then-is_constant_at-clause-found : goal.returns-then-is_constant_at-clause-found
returns-then-is_constant_at-clause-found c = (found _ _ c.functions.invariant (sym c.is_constant_at.ensures ∙ c.if-is_constant_at.true)).1
