use Rattle.std.proofs.Common.{◌≡◌, take}
use Rattle.clause_pairs.specs.Values.{numbers_of}
use Rattle.clause_pairs.proofs.Start.{empty_of}
use Rattle.clause_pairs.proofs.pairs.empty_lists.Given as goal

abbrev pub invariant-loop-literal : goal.invariant-loop-literal
invariant-loop-literal l = numbers_of l.lists.items ≡ empty_of (take l._literal-index l.clause.literals)
