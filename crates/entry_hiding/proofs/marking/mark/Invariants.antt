use Rattle.std.proofs.Common.{◌≡◌, length, drop}
use Rattle.entry_hiding.specs.Hiding.{AreBelow, with_marks}
use Rattle.entry_hiding.proofs.marking.mark.Given as goal

-- The marks that are left give the whole.
abbrev pub invariant-loop-place : goal.invariant-loop-place
invariant-loop-place l = record {
  rest : with_marks l.hidden_by (drop l.place-index l.places) l.by ≡ with_marks l.fn.hidden_by l.places l.by;
  below : AreBelow (length l.fn.hidden_by) (drop l.place-index l.places);
}
