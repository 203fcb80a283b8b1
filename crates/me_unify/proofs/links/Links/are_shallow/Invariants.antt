use Rattle.std.proofs.Common.{◌≡◌, ℕ, ◌<◌, ◌≤◌, true, get_or}
use Rattle.me_unify.specs.FlatEnds.{ends_flat}
use Rattle.me_unify.proofs.links.Links.are_shallow.Given as goal

abbrev pub invariant-loop-k : goal.invariant-loop-k
invariant-loop-k l = (j : ℕ) → l.mark ≤ j → j < l.k → ends_flat l.nodes l.self (get_or l.self.froms.items j 0) ≡ true
