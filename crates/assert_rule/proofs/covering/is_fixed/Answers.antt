use Rattle.std.proofs.Common.{◌≡◌, ℕ, ◌<◌, length, true, below_more, arith}
use Rattle.std.proofs.lemmas.Option.{slice_get_within}
use Rattle.assert_rule.specs.AssertedEntries.{FixesAt}
use Rattle.assert_rule.proofs.covering.is_fixed.Goals as goal

pub loop-k-preserved : goal.loop-k-preserved
loop-k-preserved g c =
    let context = g.V.View.context c.args.view.now in
    let P : ℕ → Type 0 = λ i. FixesAt context i c.args.atom.now → ⊥ in
    below_more P _ c.loop-k.invariant (λ h. let holds : c.fixes_at.result ≡ true = c.fixes_at.ensures.1 h in cc (holds, c.if-fixes_at.false))

pub returns : goal.returns
returns g c = (
  λ h. cc,
  λ h.
      let within : h.0 < length (g.V.View.context c.args.view.now) = slice_get_within _ h.0 h.1.0 h.1.1.0 in
      absurd (c.loop-k.invariant h.0 (omega (arith, within, c.len-k-end.ensures.number)) h.1),
)
