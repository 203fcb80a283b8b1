use Rattle.tptp_cnf.proofs.Constants.{Searched}
use Rattle.problem_checks.proofs.plainness.is_first_constant.Given as goal

abbrev pub invariant-functions : goal.invariant-functions
invariant-functions l = Searched l.signature.functions l.f
