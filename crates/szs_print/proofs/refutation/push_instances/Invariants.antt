use Rattle.std.proofs.Common.{◌≡◌, ◌+◌, ◌++◌, drop}
use Rattle.szs_print.specs.RefutationText.{instance_lines}
use Rattle.szs_print.proofs.refutation.push_instances.Given as goal

-- What is printed and what is left give the whole.
abbrev pub invariant-loop-i : goal.invariant-loop-i
invariant-loop-i l =
    l.out.items ++ instance_lines l.problem (l.i + 1) (drop l.i l.list) ≡ l.fn.out.items ++ instance_lines l.problem 1 l.list
