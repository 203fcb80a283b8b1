use Rattle.std.proofs.Common.{◌≡◌, ℕ, ◌<◌, length, get_or}
use Rattle.me_unify.specs.Linked.{Alike, IsForest, AreDirected, IsLonger, Respects, Colouring}
use Rattle.me_unify.proofs.links.Links.join_all.Given as goal

abbrev pub invariant-loop-i : goal.invariant-loop-i
invariant-loop-i l = record {
  forest : IsForest l.self;
  size : length l.self.place.items ≡ length l.initial.self.place.items;
  directed : AreDirected l.nodes l.self;
  more : IsLonger l.initial.self l.self;
  same : (h : Colouring) → Respects l.initial.self h → ((i : ℕ) → i < length l.xs → h (get_or l.xs i 0) ≡ h (get_or l.ys i 0)) → Respects l.self h;
  alike : (i : ℕ) → i < l.i → Alike l.self (get_or l.xs i 0) (get_or l.ys i 0);
}
