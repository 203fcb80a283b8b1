use Rattle.std.proofs.Common.{◌≡◌, ◌≤◌, length}
use Rattle.me_unify.specs.Linked.{IsForest, IsLonger}
use Rattle.me_unify.proofs.links.Links.undo.Given as goal

abbrev pub invariant-links : goal.invariant-links
invariant-links l = record {
  forest : IsForest l.self;
  size : length l.self.place.items ≡ length l.initial.self.place.items;
  within : l.mark ≤ length l.self.froms.items;
  less : IsLonger l.self l.initial.self;
}

abbrev pub decreases-links : goal.decreases-links
decreases-links l = length l.self.froms.items
