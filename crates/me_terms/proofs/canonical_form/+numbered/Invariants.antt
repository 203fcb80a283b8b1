use Rattle.std.proofs.Common.{◌≡◌, ◌+◌, ◌*◌, ◌<◌, ◌^◌, drop}
use Rattle.std.specs.List.{All}
use Rattle.me_terms.specs.Terms.{arguments_of, height, heights}
use Rattle.me_terms.specs.TermViews.{term_value}
use Rattle.me_terms.specs.Variables.{variables_of, first_ones}
use Rattle.me_terms.proofs.Numbered.{IsMade}
use Rattle.me_terms.proofs.canonical_form.+numbered.Given as goal

abbrev pub decreases-numbered : goal.decreases-numbered
decreases-numbered l = 2 * height (term_value l.term.now)

abbrev pub decreases-numbered_all : goal.decreases-numbered_all
decreases-numbered_all l = 2 * heights (arguments_of l.terms.now.items) + 1

abbrev pub invariant-numbered_all-loop-k : goal.invariant-numbered_all-loop-k
invariant-numbered_all-loop-k l = record {
  names : first_ones l.initial.names.keys (variables_of (arguments_of l.terms.items)) ≡ first_ones l.names.keys (variables_of (arguments_of (drop l.k l.terms.items)));
  made : IsMade l.names.keys l.made.items l.terms.items l.k;
  small : All (λ y. y < 2 ^ 32) l.names.keys;
}
