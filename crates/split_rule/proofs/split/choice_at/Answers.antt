use Rattle.std.proofs.Common.{◌≡◌, Bool, true, cond, ap, ◌∙◌}
use Rattle.me_terms.specs.Unifier.{unified}
use Rattle.me_terms.specs.Fits.{Fits}
use Rattle.me_terms.specs.declared.entry.Kind.TheVariants.{Universal, Parametric}
use Rattle.joint_unifiers.proofs.Fitting.{fitting_weight}
use Rattle.split_rule.proofs.Choosing.{at_within, nothing_fits, one_fits}
use Rattle.split_rule.proofs.split.choice_at.Goals as goal

pub returns-then-not-fits : goal.returns-then-not-fits
returns-then-not-fits c = λ f general.
    nothing_fits c.args.u.now.literals c.args.place c.args.bounds.now f
    (λ l at fits. let holds : c.fits.result ≡ true = (c.fits.ensures f l general at).1 fits in cc (holds, c.if-not-fits.true))

pub returns : goal.returns
returns c = λ f general.
    let bounds = c.args.bounds.now in
    let read = at_within c.args.u.now.literals c.args.place c.requires.place in
    let l = read.0 in
    let holds : c.fits.result ≡ true = cc (c.if-not-fits.false) in
    let fits : Fits bounds (unified f l) = (c.fits.ensures f l general read.1).0 holds in
    one_fits c.args.u.now.literals bounds f (record { place = c.args.place; kind = c.kind_of.result; weight = c.weight.result }) l read.1 fits
    (c.kind_of.ensures ∙ ap (λ (b : Bool). cond b Universal Parametric) (c.ground.ensures f l general read.1))
    (fitting_weight bounds (unified f l) c.weight.result c.requires.bounds (c.weight.ensures f l general read.1) fits)
