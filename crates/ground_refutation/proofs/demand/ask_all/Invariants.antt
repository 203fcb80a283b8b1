use Rattle.std.proofs.Common.{◌≡◌, ◌++◌, drop}
use Rattle.me_terms.specs.LeafList.{demands}
use Rattle.ground_refutation.proofs.demand.ask_all.Given as goal

-- What was asked and what is left to ask are all demands.
abbrev pub invariant-loop-i : goal.invariant-loop-i
invariant-loop-i l = l.waiting.items ++ demands (drop l.i l.literals) (drop l.i l.positions) ≡ l.fn.waiting.items ++ demands l.literals l.positions
