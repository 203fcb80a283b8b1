use Rattle.std.proofs.Common.{refl, ◌∙◌}
use Rattle.std.proofs.lemmas.List.{length-set}
use Rattle.me_unify.proofs.Measures.{held_more, held_all}
use Rattle.me_unify.proofs.links.Links.measures.Goals as goal

pub loop-x-preserved : goal.loop-x-preserved
loop-x-preserved c = record {
  size = length-set c.loop-x.measures.items _ c.measure_at-measure.result ∙ c.loop-x.invariant.size;
  held = held_more c.args.nodes.now c.args.self.now c.loop-x.measures.items _ c.args.list.now c.loop-x.x-index _ c.measure_at-measure.result c.requires.sequence c.loop-x-test.true refl c.loop-x.invariant.size refl
      (rw c.deref.ensures.value at c.measure_at-measure.ensures) c.loop-x.invariant.held;
}

pub returns-clause-held : goal.returns-clause-held
returns-clause-held c = held_all c.args.nodes.now c.args.self.now c.loop-x.measures.items c.args.list.now c.loop-x.x-index c.requires.sequence c.loop-x-test.false c.loop-x.invariant.held
