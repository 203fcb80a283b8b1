use Rattle.std.proofs.Common.{inl, inr, ℕ, List, refl, subst, sym}
use Rattle.darwin_cli.proofs.OneText.{wrote_one_text}
use Rattle.darwin_cli.proofs.Statuses.{words_not_answered, words_wrote, words_stood, words_file_status, words_made_status}
use Rattle.darwin_cli.proofs.Told.{words_cause}
use Rattle.darwin_cli.specs.Calls.{IsWordsCause}
use Rattle.darwin_cli.proofs.top.run.Goals as goal

pub returns-in-Ok : goal.returns-in-Ok
returns-in-Ok g c =
    let options = c.in-Ok.options in
    let asked = c.in-Ok.ensures.asked in
    let wrote = c.run_options.ensures.wrote in
    let held = g.K.Sink.written c.args.sink.now in
    let held' = g.K.Sink.written c.run_options.new.sink in
    record {
      wrote = record {
        range = wrote.range;
        answered = λ zero. let found = wrote.answered zero in (found.0, (options, asked, found.1), found.2);
        refused = λ some other. inr (options, asked, wrote.refused some other);
        front = λ six. let found = wrote.front six in (found.0, found.1, inr (options, asked, found.2), found.3);
        sink_fault = wrote.sink_fault;
        usage = λ refused. absurd (refused (asked.0, asked.1));
        too_long = wrote.too_long;
      };
      stands = inr (options, asked, c.run_options.ensures.stands);
      one_text = λ zero. let found = wrote.answered zero in wrote_one_text g.S.Source.left g.S.Source.given g.S.Source.ended g.S.Source.faults c.args.words.now.items options c.args.source.now c.run_options.new.source held held' found.0 asked found.1 found.2;
      file = λ ask. c.run_options.ensures.file (ask.unmade options asked);
      made = λ ask. c.run_options.ensures.made (ask.seeded options asked);
    }

pub returns-in-Err : goal.returns-in-Err
returns-in-Err g c =
    let words = c.args.words.now.items in
    let r = c.refusal_of.result in
    let left = g.S.Source.left in
    let given = g.S.Source.given in
    let ended = g.S.Source.ended in
    let faults = g.S.Source.faults in
    let written = g.K.Sink.written in
    let broken = g.K.Sink.faults in
    let old = c.args.source.now in
    let sink = c.args.sink.now in
    let later = c.tell.new.sink in
    let cause : IsWordsCause words r = subst (IsWordsCause words) (sym c.refusal_of.ensures) (words_cause words c.in-Err.error c.in-Err.ensures.usage) in
    record {
      wrote = words_wrote left given ended faults written broken words old sink later r c.tell.result cause c.tell.ensures;
      stands = words_stood left given ended faults written broken words old sink later r c.tell.result cause c.tell.ensures;
      one_text = λ zero. absurd (words_not_answered words r c.tell.result cause c.tell.ensures.status_is zero);
      file = λ ask. words_file_status left given ended faults written broken words old sink later r c.tell.result ask.accepted cause c.tell.ensures;
      made = λ ask. words_made_status left given ended faults written broken words old sink later r c.tell.result ask.accepted cause c.tell.ensures;
    }
