use Rattle.std.proofs.Common.{◌≡◌, ℕ, ◌<◌, true, get_or}
use Rattle.me_unify.specs.FlatEnds.{ends_at_leaf}
use Rattle.me_unify.proofs.links.Links.ends_flat.Given as goal

abbrev pub invariant-loop-k : goal.invariant-loop-k
invariant-loop-k l = (j : ℕ) → j < l.k → ends_at_leaf l.nodes l.self (get_or l.args.items j 0) ≡ true
