use Rattle.std.proofs.Common.{◌≡◌, ◌+◌, ◌*◌, ◌++◌}
use Rattle.std.specs.Io.{StartsWith}
use Rattle.me_terms.specs.Terms.{arguments_of}
use Rattle.me_terms.specs.Variables.{weights}
use Rattle.cnf_text.specs.ClauseText.{arguments_text}
use Rattle.cnf_text.proofs.Waiting.{values, left_text, waiting_text, waiting_work}
use Rattle.cnf_text.proofs.term.push_arguments.Given as goal

-- What is printed, what is left and what waits give the whole.
abbrev pub invariant-terms : goal.invariant-terms
invariant-terms l = record {
  printed : l.out.items ++ (left_text l.signature l.separator (values l.terms) ++ waiting_text l.signature l.later.items) ≡ l.fn.out.items ++ arguments_text l.signature (arguments_of l.args.items);
  kept : StartsWith l.out.items l.fn.out.items;
}

abbrev pub decreases-terms : goal.decreases-terms
decreases-terms l = 2 * weights (values l.terms) + waiting_work l.later.items
