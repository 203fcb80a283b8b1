use Rattle.std.proofs.Common.{◌≡◌, ℕ, true, refl}
use Rattle.std.proofs.lemmas.List.Elements.{All-more, Contains-get_or}
use Rattle.assert_rule.specs.AssertedEntries.{HasAtomAt}
use Rattle.assert_rule.proofs.Looked.{none_among}
use Rattle.assert_rule.proofs.lookup.stands_among.Goals as goal

pub loop-k-preserved : goal.loop-k-preserved
loop-k-preserved g c =
    let P : ℕ → Type 0 = λ i. HasAtomAt (g.V.View.context c.args.view.now) i c.args.atom.now → ⊥ in
    All-more P c.args.positions.now c.loop-k.k-index _ c.loop-k-test.true c.loop-k.invariant (λ h. let holds : c.has_atom_at.result ≡ true = c.has_atom_at.ensures.1 h in cc (holds, c.if-has_atom_at.false))

pub returns-then-has_atom_at : goal.returns-then-has_atom_at
returns-then-has_atom_at g c = (
  λ t. (_, Contains-get_or c.args.positions.now c.loop-k.k-index _ c.loop-k-test.true, c.has_atom_at.ensures.0 c.if-has_atom_at.true),
  λ h. refl,
)

pub returns : goal.returns
returns g c =
    let P : ℕ → Type 0 = λ i. HasAtomAt (g.V.View.context c.args.view.now) i c.args.atom.now in
    (λ t. cc, λ h. absurd (none_among P c.args.positions.now c.loop-k.k-index c.loop-k-test.false c.loop-k.invariant h))
