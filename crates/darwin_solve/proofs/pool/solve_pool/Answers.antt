use Rattle.branch_core.proofs.CanAssemble.{whole_can}
use Rattle.darwin_solve.proofs.WholeAnswers.{answered}
use Rattle.darwin_solve.proofs.pool.solve_pool.Goals as goal

pub assemble-requires-clause-whole : goal.assemble-requires-clause-whole
assemble-requires-clause-whole g c =
    whole_can c.args.problem.now c.args.bounds.now c.in_ok-records.records.items c.in_ok-records.ensures.whole

pub returns : goal.returns
returns g c =
    let is = answered c.args.problem.now c.args.bounds.now c.requires.valid c.in_ok-records.records.items c.assemble.result c.in_ok-records.ensures.whole c.assemble.ensures.answers in
    record { answer = is.answer; refuted = is.refuted; model = is.model; function_free = is.function_free; printable = is.printable }
