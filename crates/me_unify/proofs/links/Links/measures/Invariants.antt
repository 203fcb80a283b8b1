use Rattle.std.proofs.Common.{◌≡◌, length}
use Rattle.me_unify.proofs.Measures.{AreHeld}
use Rattle.me_unify.proofs.links.Links.measures.Given as goal

abbrev pub invariant-loop-x : goal.invariant-loop-x
invariant-loop-x l = record {
  size : length l.measures.items ≡ length l.nodes;
  held : AreHeld l.nodes l.self l.measures.items l.list l.x-index;
}
