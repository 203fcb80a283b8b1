use Rattle.ground_solver.proofs.Modelling.{trues_more}
use Rattle.ground_solver.proofs.deciding.true_atoms.Goals as goal

pub loop-k-preserved : goal.loop-k-preserved
loop-k-preserved c = trues_more c.args.atoms.now c.args.values.now c.loop-k.k c.index-atoms-k.result _ c.loop-k.trues.items c.add_true.new.trues.items c.requires.distinct c.requires.values c.loop-k-test.true c.index-atoms-k.is c.in_ok-add_true.ensures c.loop-k.invariant
