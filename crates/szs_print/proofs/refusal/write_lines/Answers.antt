use Rattle.std.proofs.Common.{ℕ, List, arith, subst, length-append}
use Rattle.std.specs.Result.{OnOk, IfErr}
use Rattle.std.specs.Io.KnownBytes.{Appends}
use Rattle.me_io.specs.Sink.{AppendedFront, written_before}
use Rattle.szs_print.proofs.Writing.{lines_are}
use Rattle.szs_print.proofs.refusal.write_lines.Goals as goal

pub write_pieces-requires : goal.write_pieces-requires
write_pieces-requires g c = omega (arith, length-append {A = ℕ})

pub returns-clause-all : goal.returns-clause-all
returns-clause-all g c =
    let held = g.K.Sink.written in
    let a = c.args in
    subst (λ (text : List ℕ). OnOk c.write_pieces.result (Appends (held a.sink.now) (held c.write_pieces.new.sink) text)) (lines_are a.word.now a.name.now a.cause.now a.at.now a.digits.now) c.write_pieces.ensures.all

pub returns-clause-front : goal.returns-clause-front
returns-clause-front g c =
    let held = g.K.Sink.written in
    let a = c.args in
    subst (λ (text : List ℕ). IfErr c.write_pieces.result (λ e. AppendedFront (held a.sink.now) (held c.write_pieces.new.sink) (written_before e) text)) (lines_are a.word.now a.name.now a.cause.now a.at.now a.digits.now) c.write_pieces.ensures.front
