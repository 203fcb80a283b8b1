use Rattle.tptp_cnf.proofs.Constants.{Searched}
use Rattle.tptp_cnf.proofs.builder.first_constant.Given as goal

abbrev pub invariant-functions : goal.invariant-functions
invariant-functions l = Searched l.signature.functions l.number
