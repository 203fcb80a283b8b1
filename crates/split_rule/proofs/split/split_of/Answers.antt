use Rattle.std.proofs.Common.{◌≡◌, ℕ, List, [], ◌∷◌, take, get_or, sym, subst, ◌∙◌, arith}
use Rattle.std.proofs.lemmas.List.{take_more, take_all}
use Rattle.split_rule.specs.SplitChoices.{IsChosen}
use Rattle.split_rule.proofs.Choosing.{no_place}
use Rattle.split_rule.proofs.Rule.{follows_rule}
use Rattle.split_rule.proofs.split.split_of.Goals as goal

pub loop-place-init : goal.loop-place-init
loop-place-init c = λ f general. no_place c.args.u.now.literals c.args.bounds.now f

pub loop-place-preserved : goal.loop-place-preserved
loop-place-preserved c = λ f general.
    let literals = c.args.u.now.literals in
    let places = c.as_slice-places.result.now in
    let at = c.loop-place.place-index in
    let P : List ℕ → Type 0 = λ ps. IsChosen literals ps c.args.bounds.now f c.first_of-chosen.result in
    subst P (sym (take_more places at 0 c.loop-place-test.true)) (c.first_of-chosen.ensures literals (take at places) (get_or places at 0 ∷ []) c.args.bounds.now f (c.loop-place.invariant f general) (c.choice_at.ensures f general))

pub returns-clause-chosen : goal.returns-clause-chosen
returns-clause-chosen c = λ f general.
    let places = c.as_slice-places.result.now in
    let all : take c.loop-place.place-index places ≡ c.args.u.now.remainder = take_all c.loop-place.place-index places (omega arith) ∙ (c.as_slice-places.ensures ∙ c.remainder.ensures.items) in
    let P : List ℕ → Type 0 = λ ps. IsChosen c.args.u.now.literals ps c.args.bounds.now f c.loop-place.chosen in
    subst P all (c.loop-place.invariant f general)

pub returns-clause-rule : goal.returns-clause-rule
returns-clause-rule c = follows_rule c.args.u.now c.args.bounds.now c.loop-place.chosen (returns-clause-chosen c)
