use Rattle.std.proofs.Common.{◌∙◌, ◌∷◌, drop, sym, ap, List, ◌+◌}
use Rattle.std.proofs.lemmas.List.{drop_more}
use Rattle.me_terms.specs.Values.{LabelValue}
use Rattle.tptp_include.specs.Outcomes.{unnamed}
use Rattle.tptp_include.proofs.Naming.{first_lacks, first_had}
use Rattle.tptp_include.proofs.flat.first_unnamed.Goals as goal

pub returns-then-not-has_formula-clause-some : goal.returns-then-not-has_formula-clause-some
returns-then-not-has_formula-clause-some c =
    let split = drop_more c.args.labels.now c.labels.label-index c.label-item.result c.labels-test.true ∙ ap (λ (x : LabelValue). x ∷ drop (c.labels.label-index + 1) c.args.labels.now) (sym c.label-item.is) in
    first_lacks c.label-item.result _ c.args.labels.now c.args.formulas.now (sym c.has_formula.ensures ∙ c.if-not-has_formula.true) (c.labels.invariant ∙ ap (λ (x : List LabelValue). unnamed x c.args.formulas.now) split)

pub labels-preserved : goal.labels-preserved
labels-preserved c =
    let split = drop_more c.args.labels.now c.labels.label-index c.label-item.result c.labels-test.true ∙ ap (λ (x : LabelValue). x ∷ drop (c.labels.label-index + 1) c.args.labels.now) (sym c.label-item.is) in
    first_had c.label-item.result _ c.args.labels.now c.args.formulas.now (sym c.has_formula.ensures ∙ c.if-not-has_formula.false) (c.labels.invariant ∙ ap (λ (x : List LabelValue). unnamed x c.args.formulas.now) split)
