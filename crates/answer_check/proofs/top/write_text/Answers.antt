use Rattle.std.proofs.Common.{inl, refl}
use Rattle.me_io.specs.Sink.{written_before}
use Rattle.answer_check.proofs.top.write_text.Goals as goal

pub returns-in-Err : goal.returns-in-Err
returns-in-Err g c = record {
  status_is = inl refl;
  whole = λ other. absurd (other refl);
  front = λ six. (written_before c.in-Err.field-0, c.in-Err.ensures.front);
  fault = λ six. c.in-Err.ensures.fault;
}
