use Rattle.std.proofs.Common.{ℕ, List, subst, ◌∙◌}
use Rattle.std.specs.Result.{IfErr}
use Rattle.me_io.specs.Sink.{AppendedFront, written_before}
use Rattle.szs_print.proofs.Writing.{text_with_place, text_without_place}
use Rattle.szs_print.proofs.refusal.write_refusal.Goals as goal

pub returns-in-Some-clause-front : goal.returns-in-Some-clause-front
returns-in-Some-clause-front g c =
    let held = g.K.Sink.written in
    let is = text_with_place c.args.name.now c.word.result.now c.cause.result.now c.as_bytes-digits.result.now c.args.refusal.now c.in-Some.at c.word.ensures.text c.cause.ensures.text (c.as_bytes-digits.ensures.value ∙ c.format.ensures.text) c.in-Some.ensures in
    subst (λ (text : List ℕ). IfErr c.write_lines.result (λ e. AppendedFront (held c.args.sink.now) (held c.write_lines.new.sink) (written_before e) text)) is c.write_lines.ensures.front

pub returns-in-None-clause-front : goal.returns-in-None-clause-front
returns-in-None-clause-front g c =
    let held = g.K.Sink.written in
    let is = text_without_place c.args.name.now c.word-in-None.result.now c.cause-in-None.result.now c.args.refusal.now c.word-in-None.ensures.text c.cause-in-None.ensures.text c.in-None.ensures in
    subst (λ (text : List ℕ). IfErr c.write_lines-in-None.result (λ e. AppendedFront (held c.args.sink.now) (held c.write_lines-in-None.new.sink) (written_before e) text)) is c.write_lines-in-None.ensures.front
