use Rattle.std.proofs.Common.{◌≡◌, Option, true, subst}
use Rattle.split_rule.specs.declared.choice.SplitChoice.{SplitChoice}
use Rattle.split_rule.specs.SplitChoices.{IsChosen}
use Rattle.split_rule.proofs.Choosing.{first_then_none, none_then_second, first_before, second_before}
use Rattle.split_rule.proofs.split.first_of.Goals as goal

pub returns-in_default : goal.returns-in_default
returns-in_default c = λ literals xs ys bounds f h g.
    let Q : Option SplitChoice → Type 0 = λ o. IsChosen literals ys bounds f o in
    first_then_none literals xs ys bounds f c.args.chosen h (subst Q c.in_default.is g)

pub returns-in_default-chosen : goal.returns-in_default-chosen
returns-in_default-chosen c = λ literals xs ys bounds f h g.
    let P : Option SplitChoice → Type 0 = λ o. IsChosen literals xs bounds f o in
    let Q : Option SplitChoice → Type 0 = λ o. IsChosen literals ys bounds f o in
    none_then_second literals xs ys bounds f c.in-Some.other (subst P c.in_default-chosen.is h) (subst Q c.in-Some.is g)

pub returns-then-precedes : goal.returns-then-precedes
returns-then-precedes c = λ literals xs ys bounds f h g.
    let P : Option SplitChoice → Type 0 = λ o. IsChosen literals xs bounds f o in
    let Q : Option SplitChoice → Type 0 = λ o. IsChosen literals ys bounds f o in
    first_before literals xs ys bounds f c.in-Some-chosen.choice c.in-Some.other (c.precedes.ensures.0 c.if-precedes.true) (subst P c.in-Some-chosen.is h) (subst Q c.in-Some.is g)

pub returns-else-precedes : goal.returns-else-precedes
returns-else-precedes c = λ literals xs ys bounds f h g.
    let P : Option SplitChoice → Type 0 = λ o. IsChosen literals xs bounds f o in
    let Q : Option SplitChoice → Type 0 = λ o. IsChosen literals ys bounds f o in
    second_before literals xs ys bounds f c.in-Some-chosen.choice c.in-Some.other (λ before. let holds : c.precedes.result ≡ true = c.precedes.ensures.1 before in cc (holds, c.if-precedes.false)) (subst P c.in-Some-chosen.is h) (subst Q c.in-Some.is g)
