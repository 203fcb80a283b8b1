use Rattle.darwin_steps.proofs.Tracing.{HasTraced}
use Rattle.darwin_steps.proofs.walk.walk.Given as goal

abbrev pub invariant-steps : goal.invariant-steps
invariant-steps g l = HasTraced l.problem l.bounds l.context (g.K.Sink.written l.fn.sink) (g.K.Sink.written l.sink)
