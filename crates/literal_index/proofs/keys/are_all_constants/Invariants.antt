use Rattle.std.proofs.Common.{◌≡◌, true, take}
use Rattle.std.specs.List.{list_all}
use Rattle.me_terms.specs.TermViews.{term_value}
use Rattle.literal_index.specs.Index.{is_constant}
use Rattle.literal_index.proofs.keys.are_all_constants.Given as goal

-- The terms so far are constants.
abbrev pub invariant-loop-term : goal.invariant-loop-term
invariant-loop-term l = list_all (λ t. is_constant (term_value t)) (take l.term-index l.terms) ≡ true
