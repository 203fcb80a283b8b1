use Rattle.std.proofs.Common.{◌≡◌, ◌++◌, ◌+◌, length, map}
use Rattle.std.specs.List.{All}
use Rattle.me_terms.specs.Terms.{arguments_of}
use Rattle.me_terms.specs.TermViews.{term_value}
use Rattle.me_terms.specs.Substitutions.{Family, apply_term}
use Rattle.me_terms.specs.Dropping.{later_works}
use Rattle.me_unify.specs.Linked.{Colouring, IsColoured}
use Rattle.me_unify.specs.Nodes.{IsArena, KeepsNodes}
use Rattle.me_unify.proofs.Frames.{whole, left_works, AreWithin}
use Rattle.me_unify.proofs.Adding.{opened, size_of, IsWithin}
use Rattle.me_unify.proofs.arena.Arena.add_all.Given as goal

-- What has nodes and what is left are the whole.
abbrev pub invariant-terms : goal.invariant-terms
invariant-terms l = record {
  arena : IsArena l.self.nodes l.self.links;
  grown : KeepsNodes l.initial.self.nodes l.self.nodes;
  within : AreWithin (length l.self.nodes) l.made.items;
  within_above : All (IsWithin (length l.self.nodes)) l.above.items;
  made : (t : Family) (h : Colouring) → IsColoured l.self.nodes t h
      → whole (t l.space) (map (opened h) l.above.items) (map h l.made.items ++ map (apply_term (t l.space)) (map term_value l.rest)) ≡ map (apply_term (t l.space)) l.terms.items;
  froms : l.self.links.froms.items ≡ l.initial.self.links.froms.items;
  tos : l.self.links.tos.items ≡ l.initial.self.links.tos.items;
}

abbrev pub decreases-terms : goal.decreases-terms
decreases-terms l = later_works (arguments_of (map term_value l.rest)) + left_works (map size_of l.above.items)
