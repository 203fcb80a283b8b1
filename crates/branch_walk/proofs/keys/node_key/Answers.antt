use Rattle.std.proofs.Common.{sym, ◌∙◌}
use Rattle.branch_walk.proofs.NodeKeys.{key_early, turn_more}
use Rattle.branch_walk.proofs.keys.node_key.Goals as goal

pub returns-in-None : goal.returns-in-None
returns-in-None g c =
    c.key_of.ensures ∙ key_early (g.V.View.context c.args.branch.now) c.loop-k.k c.loop-k.path c.loop-k.invariant c.in-None.ensures

pub loop-k-preserved : goal.loop-k-preserved
loop-k-preserved g c =
    turn_more (g.V.View.context c.args.branch.now) c.loop-k.k c.in-Some.entry.now c.loop-k.path c.in-Some-with_turn.longer (sym c.in-Some.ensures.item) c.loop-k.invariant c.in-Some-with_turn.ensures
