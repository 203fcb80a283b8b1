use Rattle.std.proofs.Common.{◌≡◌, ◌≤◌, max, drop, map}
use Rattle.me_terms.specs.TermViews.{term_value}
use Rattle.me_terms.specs.Terms.{arguments_of}
use Rattle.me_terms.specs.Variables.{depths}
use Rattle.me_terms.specs.Measures.{capped, GREATEST_U64}
use Rattle.me_terms.proofs.term.+depth.Given as goal

-- The deepest so far and what is left give the whole.
abbrev pub invariant-Terms::depth-loop-item : goal.invariant-Terms::depth-loop-item
invariant-Terms::depth-loop-item l = record {
  counted : capped (depths (arguments_of l.self.items)) ≡ capped (max l.deepest (depths (arguments_of (map term_value (drop l.item-index l.item-items)))));
  in_range : l.deepest ≤ GREATEST_U64;
}
