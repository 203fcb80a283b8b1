use Rattle.std.proofs.Common.{length, sym, ◌∙◌, arith}
use Rattle.candidate_keys.proofs.Leasts.{some_of, least_start, least_earlier, least_all}
use Rattle.candidate_keys.proofs.asserts.least_of.Goals as goal

pub loop-k-init : goal.loop-k-init
loop-k-init c = record { within = some_of (length c.args.keys.now) (sym c.is_empty.ensures ∙ c.if-is_empty.false); first = least_start c.args.keys.now }

pub loop-k-preserved : goal.loop-k-preserved
loop-k-preserved c =
    let both = least_earlier c.args.keys.now c.loop-k.least c.loop-k.k c.earlier-least.result c.loop-k.invariant.within (omega arith) c.earlier-least.ensures c.loop-k.invariant.first in
    record { within = both.0; first = both.1 }

pub returns-clause-least : goal.returns-clause-least
returns-clause-least c = least_all c.args.keys.now c.loop-k.least c.loop-k.k (omega arith) c.loop-k.invariant.first
