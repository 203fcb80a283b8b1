use Rattle.std.proofs.Common.{◌≡◌, ◌++◌, drop}
use Rattle.me_terms.proofs.sequence.Sequence.again.Given as goal

-- What is copied and what is left give the whole.
abbrev pub invariant-loop-item : goal.invariant-loop-item
invariant-loop-item g l = l.item-items ≡ l.copy.items ++ drop l.item-index l.item-items
