use Rattle.std.proofs.Common.{◌≡◌, ℕ, true, List, [], length, sym, subst, ap, ◌∙◌}
use Rattle.std.specs.Option.{option_copied}
use Rattle.std.proofs.lemmas.Bool.{eqb-true}
use Rattle.me_terms.specs.Values.{EntryValue}
use Rattle.me_terms.specs.Unifier.{unified}
use Rattle.assert_rule.specs.AssertOrder.{IsBeforeBest}
use Rattle.assert_rule.specs.AssertedEntries.{AssertsBy}
use Rattle.assert_rule.proofs.Owed.{at_within, kind_is, weight_is, none_left, must_fit, must_be_before, must_be_new, written, asserted}
use Rattle.assert_rule.proofs.asserting.assert_by.Goals as goal

pub returns-then-not-is_before-clause-none : goal.returns-then-not-is_before-clause-none
returns-then-not-is_before-clause-none g c = λ e a better.
    let u = c.args.unifier.now in
    let context = g.V.View.context c.args.view.now in
    let kind = kind_is context c.args.place c.tuple-tuple.result.now.items u.tuple (unified a.family a.literal) c.kind_of-kind.result c.ground.result c.tuple-tuple.ensures.positions c.kind_of-kind.ensures (c.ground.ensures a.family a.literal a.general a.literal_at) in
    let before = must_be_before u c.args.bounds.now context c.args.index c.args.place e a c.kind_of-kind.result c.weight-weight.result (option_copied c.args.best) c.requires.bounds kind (c.weight-weight.ensures a.family a.literal a.general a.literal_at) better in
    let holds : c.is_before.result ≡ true = c.is_before.ensures.1 before in
    cc (holds, c.if-not-is_before.true)

pub returns-then-not-fits-clause-none : goal.returns-then-not-fits-clause-none
returns-then-not-fits-clause-none g c = λ e a better.
    let fits = must_fit c.args.unifier.now c.args.bounds.now (g.V.View.context c.args.view.now) c.args.index c.args.place e a in
    let holds : c.fits.result ≡ true = (c.fits.ensures a.family a.literal a.general a.literal_at).1 fits in
    cc (holds, c.if-not-fits.true)

pub returns-then-not-branch-clause-none : goal.returns-then-not-branch-clause-none
returns-then-not-branch-clause-none g c = λ e a better.
    let u = c.args.unifier.now in
    let context = g.V.View.context c.args.view.now in
    let kind = kind_is context c.args.place c.tuple-tuple.result.now.items u.tuple (unified a.family a.literal) c.kind_of-kind.result c.ground.result c.tuple-tuple.ensures.positions c.kind_of-kind.ensures (c.ground.ensures a.family a.literal a.general a.literal_at) in
    let new = must_be_new u c.args.bounds.now context c.args.index c.args.place e a c.kind_of-kind.result c.in_ok-literal.literal kind (c.in_ok-literal.ensures a.family a.literal a.general a.literal_at) in
    let holds : c.in_ok-is_new.field-0 ≡ true = c.in_ok-is_new.ensures.1 new in
    cc (holds, c.if-not-branch.true)

pub new-requires : goal.new-requires
new-requires g c =
    let read = at_within c.args.unifier.now.literals c.args.place c.requires.place in
    let family = c.tuple-tuple.ensures.family in
    let l = read.0 in
    let holds : c.fits.result ≡ true = cc (c.if-not-fits.false) in
    let fits = (c.fits.ensures family.0 l family.1 read.1).0 holds in
    weight_is c.args.bounds.now (unified family.0 l) c.in_ok-literal.literal c.weight-weight.result c.requires.bounds (c.weight-weight.ensures family.0 l family.1 read.1) fits (c.in_ok-literal.ensures family.0 l family.1 read.1)

pub returns-clause-some : goal.returns-clause-some
returns-clause-some g c =
    let u = c.args.unifier.now in
    let bounds = c.args.bounds.now in
    let context = g.V.View.context c.args.view.now in
    let read = at_within u.literals c.args.place c.requires.place in
    let family = c.tuple-tuple.ensures.family in
    let f = family.0 in
    let l = read.0 in
    let kind = kind_is context c.args.place c.tuple-tuple.result.now.items u.tuple (unified f l) c.kind_of-kind.result c.ground.result c.tuple-tuple.ensures.positions c.kind_of-kind.ensures (c.ground.ensures f l family.1 read.1) in
    let fitting : c.fits.result ≡ true = cc (c.if-not-fits.false) in
    let fits = (c.fits.ensures f l family.1 read.1).0 fitting in
    let fresh : c.in_ok-is_new.field-0 ≡ true = cc (c.if-not-branch.false) in
    let empty : c.is_empty.result ≡ true = cc (c.if-not-is_empty.false) in
    let none : u.remainder ≡ [] = sym c.remainder.ensures.items ∙ none_left c.remainder.result.now.items (eqb-true (length c.remainder.result.now.items) 0 (sym c.is_empty.ensures ∙ empty)) in
    let entry = c.new.ensures ∙ ap (λ (t : List ℕ). written c.in_ok-literal.literal c.kind_of-kind.result c.args.index c.args.place t) (c.in_ok-tuple.ensures ∙ c.tuple-tuple.ensures.positions) in
    let P : EntryValue → Type 0 = λ e. AssertsBy u bounds context c.args.index c.args.place e in
    subst P (sym entry) (asserted u bounds context c.args.index c.args.place l f c.in_ok-literal.literal c.kind_of-kind.result read.1 family.1 none fits (c.in_ok-literal.ensures f l family.1 read.1) kind (c.in_ok-is_new.ensures.0 fresh))

pub returns-clause-before : goal.returns-clause-before
returns-clause-before g c =
    let bounds = c.args.bounds.now in
    let read = at_within c.args.unifier.now.literals c.args.place c.requires.place in
    let family = c.tuple-tuple.ensures.family in
    let f = family.0 in
    let l = read.0 in
    let fitting : c.fits.result ≡ true = cc (c.if-not-fits.false) in
    let fits = (c.fits.ensures f l family.1 read.1).0 fitting in
    let weighs = weight_is bounds (unified f l) c.in_ok-literal.literal c.weight-weight.result c.requires.bounds (c.weight-weight.ensures f l family.1 read.1) fits (c.in_ok-literal.ensures f l family.1 read.1) in
    let holds : c.is_before.result ≡ true = cc (c.if-not-is_before.false) in
    let P : ℕ → Type 0 = λ w. IsBeforeBest c.kind_of-kind.result w (option_copied c.args.best) in
    let before = subst P weighs (c.is_before.ensures.0 holds) in
    rw c.new.ensures before
