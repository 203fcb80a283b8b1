use Rattle.std.proofs.Common.{◌≡◌, ◌++◌, drop}
use Rattle.darwin_steps.specs.StepText.{commas_text}
use Rattle.darwin_steps.proofs.step_text.push_others.Given as goal

-- What is printed and what is left give the whole.
abbrev pub invariant-loop-position : goal.invariant-loop-position
invariant-loop-position l =
    l.out.items ++ commas_text (drop l.position-index l.positions) ≡ l.fn.out.items ++ commas_text l.positions
