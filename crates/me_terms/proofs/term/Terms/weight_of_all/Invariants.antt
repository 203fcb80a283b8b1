use Rattle.std.proofs.Common.{◌≡◌, ◌+◌, ◌≤◌}
use Rattle.me_terms.specs.Terms.{arguments_of}
use Rattle.me_terms.specs.Variables.{weights}
use Rattle.me_terms.specs.Measures.{capped, GREATEST_U64}
use Rattle.me_terms.specs.Dropping.{later_works}
use Rattle.me_terms.proofs.Waiting.{values, waiting_weight, waiting_work}
use Rattle.me_terms.proofs.term.Terms.weight_of_all.Given as goal

-- What is counted and what is left give the whole.
abbrev pub invariant-terms : goal.invariant-terms
invariant-terms l = record {
  counted : capped (weights (arguments_of l.self.items)) ≡ capped (l.total + (weights (values l.terms) + waiting_weight l.later.items));
  in_range : l.total ≤ GREATEST_U64;
}

abbrev pub decreases-terms : goal.decreases-terms
decreases-terms l = later_works (values l.terms) + waiting_work l.later.items
