use Rattle.std.proofs.Common.{◌≡◌, take}
use Rattle.clause_pairs.specs.Values.{lists_of}
use Rattle.clause_pairs.proofs.Start.{all_empty}
use Rattle.clause_pairs.proofs.pairs.Pairs.new.Given as goal

abbrev pub invariant-loop-clause : goal.invariant-loop-clause
invariant-loop-clause l = lists_of l.lists.items ≡ all_empty (take l.clause-index l.problem.clauses)
