use Rattle.std.proofs.Common.{◌≡◌, ℕ, ◌<◌, length, true, below_more, arith}
use Rattle.std.proofs.lemmas.Option.{slice_get_within}
use Rattle.induced_model.specs.Producers.{ProducesAt}
use Rattle.induced_model.proofs.truth.first_producer.Goals as goal

pub loop-k-preserved : goal.loop-k-preserved
loop-k-preserved g c =
    let context = g.V.View.context c.args.view.now in
    let P : ℕ → Type 0 = λ i. ProducesAt context i c.args.positive c.args.atom.now → ⊥ in
    below_more P _ c.loop-k.invariant (λ h. let holds : c.produces_at.result ≡ true = c.produces_at.ensures.1 h in cc (holds, c.if-produces_at.false))

pub returns-clause-none : goal.returns-clause-none
returns-clause-none g c is_none k h =
    let within : k < length (g.V.View.context c.args.view.now) = slice_get_within _ k h.0 h.1.visible.0 in
    c.loop-k.invariant k (omega (arith, within, c.len-k-end.ensures.number)) h
