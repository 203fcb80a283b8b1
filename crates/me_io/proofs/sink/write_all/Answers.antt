use Rattle.std.proofs.Common.{rules}
use Rattle.std.proofs.lemmas.List.{take_rest}
use Rattle.me_io.proofs.Known.{appended_more}
use Rattle.me_io.proofs.sink.write_all.Goals as goal

pub loop-written-preserved : goal.loop-written-preserved
loop-written-preserved g c = record {
  within = search rules;
  bytes = appended_more _ _ _ _ _ _ c.loop-written.invariant.bytes (simp take_rest at c.in-Ok.ensures.bytes);
  later = search rules;
}
