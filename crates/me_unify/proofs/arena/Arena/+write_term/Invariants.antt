use Rattle.std.proofs.Common.{◌≡◌, ◌+◌, ◌*◌, drop, map}
use Rattle.me_terms.specs.Terms.{arguments_of, height, heights}
use Rattle.me_terms.specs.TermViews.{term_value}
use Rattle.me_terms.specs.Substitutions.{Family, apply_term}
use Rattle.me_terms.specs.Variables.{variables_of, first_ones}
use Rattle.me_terms.proofs.Numbered.{IsMade}
use Rattle.me_unify.specs.Left.{IsRead, numbers}
use Rattle.me_unify.proofs.arena.Arena.+write_term.Given as goal

abbrev pub decreases-write_term : goal.decreases-write_term
decreases-write_term l = 2 * height (term_value l.term.now)

abbrev pub decreases-write_terms : goal.decreases-write_terms
decreases-write_terms l = 2 * heights (arguments_of l.terms.now.items) + 1

abbrev pub invariant-write_terms-loop-k : goal.invariant-write_terms-loop-k
invariant-write_terms-loop-k l = record {
  names : (u : Family) → IsRead l.self.nodes l.self.links u
      → first_ones (numbers l.initial.names.keys) (variables_of (arguments_of (map (apply_term (u l.space)) l.terms.items)))
      ≡ first_ones (numbers l.names.keys) (variables_of (arguments_of (drop l.k (map (apply_term (u l.space)) l.terms.items))));
  made : (u : Family) → IsRead l.self.nodes l.self.links u → IsMade (numbers l.names.keys) l.made.items (map (apply_term (u l.space)) l.terms.items) l.k;
}
