use Rattle.std.proofs.Common.{◌≡◌, ◌++◌, drop}
use Rattle.me_terms.proofs.tuple.Tuple.again.Given as goal

-- What is copied and what is left give the whole.
abbrev pub invariant-loop-position : goal.invariant-loop-position
invariant-loop-position l = l.position-items ≡ l.copy.items ++ drop l.position-index l.position-items
