use Rattle.ground_solver.proofs.propagation.Watches.visit_next.Goals as goal

pub returns-in-Refuted-clause-refuted : goal.returns-in-Refuted-clause-refuted
returns-in-Refuted-clause-refuted c = c.in_ok-visit.ensures.refuted c.in-Refuted.is
