use Rattle.darwin_solve.proofs.WholeAnswers.{answered, pushed_whole, pushed_can}
use Rattle.darwin_solve.proofs.solve.solve_alone.Goals as goal

pub assemble-requires-clause-whole : goal.assemble-requires-clause-whole
assemble-requires-clause-whole c =
    pushed_can c.args.problem.now c.args.bounds.now c.new-records.result.items c.push.new.self.items c.in_ok-record.record c.new-records.ensures c.in-Ok.ensures.ok c.in_ok-record.ensures.whole

pub returns : goal.returns
returns c =
    let problem = c.args.problem.now in
    let bounds = c.args.bounds.now in
    let items = c.push.new.self.items in
    let whole = pushed_whole problem bounds c.new-records.result.items items c.in_ok-record.record c.new-records.ensures c.in-Ok.ensures.ok c.in_ok-record.ensures.whole in
    let is = answered problem bounds c.requires.valid items c.assemble.result whole c.assemble.ensures.answers in
    record { answer = is.answer; refuted = is.refuted; model = is.model; function_free = is.function_free; printable = is.printable }
