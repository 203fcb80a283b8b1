use Rattle.darwin_steps.proofs.Tracing.{lines_written}
use Rattle.darwin_steps.proofs.walk.tell_step.Goals as goal

pub returns-clause-told : goal.returns-clause-told
returns-clause-told g c =
    let t = c.in-Ok.ensures.told in
    (t.0, t.1, lines_written _ _ _ _ _ t.0 t.2 c.new-lines.ensures.items c.as_slice.ensures.value c.in_ok-say.ensures)
