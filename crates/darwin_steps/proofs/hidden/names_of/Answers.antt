use Rattle.darwin_steps.proofs.Names.{below_more}
use Rattle.darwin_steps.proofs.hidden.names_of.Goals as goal

pub loop-k-preserved : goal.loop-k-preserved
loop-k-preserved c =
    let added = c.in_ok-push_name.ensures in
    below_more c.args.context.now c.args.new.now c.loop-k.k c.loop-k.names.items added.0 _ c.loop-k.invariant added.1 added.2
