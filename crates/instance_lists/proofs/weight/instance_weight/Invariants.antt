use Rattle.std.proofs.Common.{◌≡◌, ◌+◌, ◌≤◌, drop}
use Rattle.me_terms.specs.Measures.{literals_weight, capped, GREATEST_U64}
use Rattle.instance_lists.proofs.weight.instance_weight.Given as goal

-- What is counted and what is left give the whole.
abbrev pub invariant-loop-literal : goal.invariant-loop-literal
invariant-loop-literal l = record {
  counted : capped (literals_weight l.instance.literals) ≡ capped (l.total + literals_weight (drop l.literal-index l.literal-items));
  in_range : l.total ≤ GREATEST_U64;
}
