use Rattle.std.proofs.Common.{refl, ap, ◌∙◌}
use Rattle.me_terms.specs.Terms.{AtomValue}
use Rattle.literal_index.specs.Postings.{positions}
use Rattle.assert_rule.proofs.Looked.{by_atom, otherwise}
use Rattle.assert_rule.proofs.lookup.is_fixed_by.Goals as goal

pub returns-then-stands_among : goal.returns-then-stands_among
returns-then-stands_among g c = (
  λ t. by_atom (g.V.View.context c.args.view.now) c.args.entries.now c.args.atom.now c.len-entries.ensures.is_context c.requires.ground c.requires.index c.of_atom.result.now (positions c.args.atom.now.pred c.args.entries.now.general) c.of_atom.ensures refl (c.stands_among.ensures.0 c.if-stands_among.true),
  λ h. refl,
)

pub returns : goal.returns
returns g c =
    let of_predicate = c.general.ensures ∙ ap (λ (z : AtomValue). positions z.pred c.args.entries.now.general) c.atom.view_is in
    otherwise (g.V.View.context c.args.view.now) c.args.entries.now c.args.atom.now c.len-entries.ensures.is_context c.requires.ground c.requires.index c.of_atom.result.now c.general.result.now c.of_atom.ensures of_predicate c.stands_among.result c.fixes_among.result c.stands_among.ensures c.if-stands_among.false c.fixes_among.ensures
