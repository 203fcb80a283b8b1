use Rattle.darwin_steps.specs.HiddenText.{AreHiddenBelow}
use Rattle.darwin_steps.proofs.hidden.names_of.Given as goal

-- The names at the positions so far are there.
abbrev pub invariant-loop-k : goal.invariant-loop-k
invariant-loop-k l = AreHiddenBelow l.context l.new l.k l.names.items
