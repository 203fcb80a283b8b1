use Rattle.tptp_grammar.proofs.Variables.{added}
use Rattle.tptp_cnf.proofs.Variables.{placed}
use Rattle.tptp_cnf.proofs.numbers.variable.Goals as goal

pub returns-in-Ok-clause-number : goal.returns-in-Ok-clause-number
returns-in-Ok-clause-number c = placed c.args.variables.now.keys c.insert_full.new.self.keys c.args.text c.in-Ok.number c.in-Ok.ensures.index c.in-Ok.ensures.keys

pub returns-in-Ok-clause-added : goal.returns-in-Ok-clause-added
returns-in-Ok-clause-added c = added c.args.variables.now.keys c.insert_full.new.self.keys c.args.text c.in-Ok.ensures.keys
