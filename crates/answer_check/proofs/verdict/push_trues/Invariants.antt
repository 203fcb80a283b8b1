use Rattle.std.proofs.Common.{◌≡◌, ◌++◌, take}
use Rattle.std.specs.List.{flat_map}
use Rattle.answer_check.specs.Verdicts.{true_line}
use Rattle.answer_check.proofs.verdict.push_trues.Given as goal

abbrev pub invariant-loop-atom : goal.invariant-loop-atom
invariant-loop-atom l = l.out.items ≡ l.initial.out.items ++ flat_map (true_line l.signature) (take l.atom-index l.trues)
