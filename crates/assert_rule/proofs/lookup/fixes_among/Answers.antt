use Rattle.std.proofs.Common.{◌≡◌, ℕ, true, refl}
use Rattle.std.proofs.lemmas.List.Elements.{All-more, Contains-get_or}
use Rattle.assert_rule.specs.AssertedEntries.{FixesAt}
use Rattle.assert_rule.proofs.Looked.{none_among}
use Rattle.assert_rule.proofs.lookup.fixes_among.Goals as goal

pub loop-k-preserved : goal.loop-k-preserved
loop-k-preserved g c =
    let P : ℕ → Type 0 = λ i. FixesAt (g.V.View.context c.args.view.now) i c.args.atom.now → ⊥ in
    All-more P c.args.positions.now c.loop-k.k-index _ c.loop-k-test.true c.loop-k.invariant (λ h. let holds : c.fixes_at.result ≡ true = c.fixes_at.ensures.1 h in cc (holds, c.if-fixes_at.false))

pub returns-then-fixes_at : goal.returns-then-fixes_at
returns-then-fixes_at g c = (
  λ t. (_, Contains-get_or c.args.positions.now c.loop-k.k-index _ c.loop-k-test.true, c.fixes_at.ensures.0 c.if-fixes_at.true),
  λ h. refl,
)

pub returns : goal.returns
returns g c =
    let P : ℕ → Type 0 = λ i. FixesAt (g.V.View.context c.args.view.now) i c.args.atom.now in
    (λ t. cc, λ h. absurd (none_among P c.args.positions.now c.loop-k.k-index c.loop-k-test.false c.loop-k.invariant h))
