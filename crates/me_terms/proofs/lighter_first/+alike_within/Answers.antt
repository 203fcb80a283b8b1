use Rattle.std.proofs.Common.{rules}
use Rattle.me_terms.proofs.Comparing.{ended}
use Rattle.me_terms.proofs.lighter_first.+alike_within.Goals as goal

pub alike_within-returns-in_default-clause-alike : goal.alike_within-returns-in_default-clause-alike
alike_within-returns-in_default-clause-alike t c = ended c.pairs.left.rest.now c.pairs.left.others.now _ c.is_empty-alike.result (search rules) c.pairs.invariant.decided c.is_empty-alike.ensures
