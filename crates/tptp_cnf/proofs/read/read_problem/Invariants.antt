use Rattle.std.proofs.Common.{length}
use Rattle.tptp_grammar.specs.MachineViews.{reading}
use Rattle.tptp_cnf.specs.Views.{draft}
use Rattle.tptp_cnf.proofs.Reached.{Reached}
use Rattle.tptp_cnf.proofs.read.read_problem.Given as goal

abbrev pub invariant-tokens : goal.invariant-tokens
invariant-tokens l = Reached l.bytes l.tokenizer (reading l.reader.machine) (draft l.reader.builder)

abbrev pub decreases-tokens : goal.decreases-tokens
decreases-tokens l = length l.tokenizer.bytes
