use Rattle.std.proofs.Common.{arith}
use Rattle.entry_hiding.proofs.Contexts.{pseudo_is_context}
use Rattle.context_nodes.proofs.branch.Branch.new.Goals as goal

pub invariant_of-result : goal.invariant_of-result
invariant_of-result g c =
    let items = c.in_ok-vec.ensures.items in
    rw items (
      pseudo_is_context c.requires.0 _ c.requires.1,
      omega arith,
      c.in_ok-start.ensures c.args.first.now,
    )
