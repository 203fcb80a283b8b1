use Rattle.std.proofs.Common.{Option, subst}
use Rattle.split_rule.specs.declared.choice.SplitChoice.{SplitChoice}
use Rattle.split_rule.specs.SplitChoices.{IsChosen}
use Rattle.kept_asserts.proofs.Ranked.{where_some}
use Rattle.candidate_store.proofs.search.Search.step_by.Goals as goal

pub first_bound-requires-clause-none_within : goal.first_bound-requires-clause-none_within
first_bound-requires-clause-none_within g c =
    let u = c.args.unifier.now in
    λ f h. let P : Option SplitChoice → Type 0 = λ z. IsChosen u.literals u.remainder c.args.self.now.bounds.now f z in subst P c.in_default.is (c.requires.chosen f h)

pub literal-requires : goal.literal-requires
literal-requires g c = where_some c.args.choice c.in-Some.choice _ c.in-Some.is c.requires.place
