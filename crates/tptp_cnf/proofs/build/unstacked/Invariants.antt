use Rattle.std.proofs.Common.{◌≡◌, ◌++◌, reverse, vec_len}
use Rattle.tptp_cnf.proofs.build.unstacked.Given as goal

abbrev pub invariant-literals : goal.invariant-literals
invariant-literals l = l.literals.items ++ reverse l.stack.items ≡ reverse l.initial.stack.items

abbrev pub decreases-literals : goal.decreases-literals
decreases-literals l = vec_len l.stack
