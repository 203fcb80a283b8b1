use Rattle.std.proofs.Common.{◌≡◌, ℕ, ◌<◌, length, true, below_more, arith}
use Rattle.std.proofs.lemmas.Option.{slice_get_within}
use Rattle.induced_model.specs.Producers.{ExceptsAt}
use Rattle.induced_model.proofs.production.has_exception.Goals as goal

pub loop-j-preserved : goal.loop-j-preserved
loop-j-preserved g c =
    let context = g.V.View.context c.args.view.now in
    let P : ℕ → Type 0 = λ i. ExceptsAt context i c.args.entry.now c.args.atom.now → ⊥ in
    below_more P _ c.loop-j.invariant (λ h. let holds : c.excepts.result ≡ true = c.excepts.ensures.1 h in cc (holds, c.if-excepts.false))

pub returns : goal.returns
returns g c = (
  λ h. cc,
  λ h.
      let within : h.0 < length (g.V.View.context c.args.view.now) = slice_get_within _ h.0 h.1 h.2.0 in
      absurd (c.loop-j.invariant h.0 (omega (arith, within, c.len-j-end.ensures.number)) (h.1, h.2, record { generalizes = h.3; stronger = h.4 })),
)
