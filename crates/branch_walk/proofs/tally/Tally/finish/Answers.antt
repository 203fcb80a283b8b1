use Rattle.branch_walk.proofs.tally.Tally.finish.Goals as goal

pub returns-clause-pieces : goal.returns-clause-pieces
returns-clause-pieces c n leaves h = c.settle.ensures.pieces n leaves h
