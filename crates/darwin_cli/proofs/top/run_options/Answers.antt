use Rattle.std.proofs.Common.{List, ℕ}
use Rattle.std.specs.Prelude.{Vec}
use Rattle.std.specs.declared.alloc.Global.{Global}
use Rattle.darwin_cli.proofs.Statuses.{wrote, stood, file_status_is, made_status_is}
use Rattle.darwin_cli.proofs.top.run_options.Goals as goal

pub returns : goal.returns
returns g c =
    let left = g.S.Source.left in
    let given = g.S.Source.given in
    let ended = g.S.Source.ended in
    let faults = g.S.Source.faults in
    let written = g.K.Sink.written in
    let broken = g.K.Sink.faults in
    let options = c.args.options.now in
    let old = c.args.source.now in
    let new = c.text_by_pool-found.new.source in
    let sink = c.args.sink.now in
    let later = c.write_out.new.sink in
    let items : Vec ℕ Global → List ℕ = λ v. v.items in
    let found = c.text_by_pool-found in
    record {
      wrote = wrote left given ended faults written broken options old new sink later items found.result c.write_out.result (found.ensures.answered, found.ensures.refused) found.ensures.too_long (c.write_out.ensures.text, c.write_out.ensures.refusal);
      stands = stood left given ended faults written broken options old new sink later items found.result c.write_out.result (found.ensures.answered, found.ensures.refused) (c.write_out.ensures.text, c.write_out.ensures.refusal);
      file = λ unmade. file_status_is left given ended faults written broken options old new sink later items found.result c.write_out.result unmade (found.ensures.answered, found.ensures.refused) (c.write_out.ensures.text, c.write_out.ensures.refusal);
      made = λ some. made_status_is left given ended faults written broken options old new sink later items found.result c.write_out.result some (found.ensures.unread some) (found.ensures.answered, found.ensures.refused) (c.write_out.ensures.text, c.write_out.ensures.refusal);
    }
