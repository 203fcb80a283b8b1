use Rattle.std.proofs.Common.{◌≡◌, ◌-◌, ◌≤◌, length}
use Rattle.me_terms.specs.Substitutions.{Family}
use Rattle.me_unify.specs.Linked.{IsForest, AreDirected, AreClosed, IsLonger, Respects, Colouring, IsColoured}
use Rattle.me_unify.proofs.links.Links.close.Given as goal

abbrev pub invariant-links : goal.invariant-links
invariant-links l = record {
  forest : IsForest l.self;
  within : l.k ≤ length l.self.froms.items;
  size : length l.self.place.items ≡ length l.initial.self.place.items;
  directed : AreDirected l.nodes l.self;
  more : IsLonger l.initial.self l.self;
  closed : AreClosed l.nodes l.self l.k;
  same : (t : Family) (h : Colouring) → IsColoured l.nodes t h → Respects l.initial.self h → Respects l.self h;
}

abbrev pub decreases-links : goal.decreases-links
decreases-links l = length l.self.place.items - l.k
