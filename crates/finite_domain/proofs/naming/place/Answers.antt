use Rattle.std.proofs.Common.{◌≡◌, ap, ◌∙◌}
use Rattle.std.specs.List.{position_or_len}
use Rattle.me_terms.specs.Terms.{TermValue}
use Rattle.me_terms.specs.TermEquality.{same_term}
use Rattle.finite_domain.proofs.Making.{place_some, place_none}
use Rattle.finite_domain.proofs.naming.place.Goals as goal

pub returns-in-Some-clause-place : goal.returns-in-Some-clause-place
returns-in-Some-clause-place c =
    place_some (same_term c.new.result) c.args.names.now.keys c.in-Some.place c.in-Some.ensures.index ∙ ap (λ (t : TermValue). position_or_len (same_term t) c.args.names.now.keys) c.new.ensures

pub returns-in-None-clause-place : goal.returns-in-None-clause-place
returns-in-None-clause-place c =
    c.len.ensures.len ∙ place_none (same_term c.new.result) c.args.names.now.keys c.in-None.ensures.index ∙ ap (λ (t : TermValue). position_or_len (same_term t) c.args.names.now.keys) c.new.ensures
