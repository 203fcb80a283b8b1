use Rattle.szs_read.proofs.Passing.{same_named}
use Rattle.szs_read.proofs.named.is_named.Goals as goal

pub returns-clause-other : goal.returns-clause-other
returns-clause-other c = λ f h. same_named c.named.result c.args.line.now c.args.head.now c.args.name c.eq.result c.eq.ensures f c.named.ensures.some c.named.ensures.none h
