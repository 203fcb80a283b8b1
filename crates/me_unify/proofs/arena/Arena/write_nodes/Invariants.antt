use Rattle.std.proofs.Common.{◌≡◌, ℕ, List, ◌++◌, ◌+◌, length, map}
use Rattle.std.specs.List.{All}
use Rattle.me_terms.specs.Terms.{arguments_of}
use Rattle.me_terms.specs.Substitutions.{apply_term}
use Rattle.me_terms.specs.Variables.{variables_of, first_ones}
use Rattle.me_terms.specs.Names.{by_place}
use Rattle.me_terms.specs.Dropping.{later_works}
use Rattle.me_unify.specs.Left.{term_at, numbers}
use Rattle.me_unify.proofs.Frames.{whole, left_works, left_variables, AreWithin}
use Rattle.me_unify.proofs.Writing.{opened, IsWithin}
use Rattle.me_unify.proofs.arena.Arena.write_nodes.Given as goal

-- What is written and what is left are the whole, with all names that will have been given in the end.
abbrev pub invariant-nodes : goal.invariant-nodes
invariant-nodes l =
    let h = term_at l.self.nodes l.self.links in
    let all = first_ones (numbers l.initial.names.keys) (variables_of (arguments_of (map h l.xs))) in
    record {
      names : first_ones (numbers l.names.keys) (left_variables (map (opened h) l.above.items) (variables_of (arguments_of (map h l.rest)))) ≡ all;
      made : (later : List ℕ) → whole (by_place (all ++ later)) (map (opened h) l.above.items) (l.made.items ++ map (apply_term (by_place (all ++ later))) (map h l.rest)) ≡ map (apply_term (by_place (all ++ later))) (map h l.xs);
      within : AreWithin (length l.self.nodes) l.rest;
      within_above : All (IsWithin (length l.self.nodes)) l.above.items;
    }

abbrev pub decreases-nodes : goal.decreases-nodes
decreases-nodes l =
    let h = term_at l.self.nodes l.self.links in
    later_works (arguments_of (map h l.rest)) + left_works (map (opened h) l.above.items)
