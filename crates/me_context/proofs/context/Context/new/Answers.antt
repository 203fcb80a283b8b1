use Rattle.std.proofs.Common.{refl, arith}
use Rattle.entry_hiding.proofs.Contexts.{pseudo_is_context}
use Rattle.me_context.proofs.context.Context.new.Goals as goal

pub invariant_of-result : goal.invariant_of-result
invariant_of-result c = rw c.in_ok-vec.ensures.items (pseudo_is_context _ _ refl, omega arith, c.in_ok-start.ensures _)
