use Rattle.std.proofs.Common.{sym, ◌∙◌, arith}
use Rattle.tptp_cnf.proofs.Constants.{found, searched_more}
use Rattle.problem_checks.proofs.FirstConstant.{first_is}
use Rattle.problem_checks.proofs.plainness.is_first_constant.Goals as goal

pub functions-preserved : goal.functions-preserved
functions-preserved c = searched_more _ _ c.functions.invariant (omega arith) (sym c.is_constant_at.ensures ∙ c.if-is_constant_at.false)

pub returns-then-is_constant_at : goal.returns-then-is_constant_at
returns-then-is_constant_at c = let k = found _ _ c.functions.invariant (sym c.is_constant_at.ensures ∙ c.if-is_constant_at.true) in first_is c.args.signature.now.functions c.functions.f c.args.c0 k.0 k.1
