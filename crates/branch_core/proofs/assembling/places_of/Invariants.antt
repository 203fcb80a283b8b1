use Rattle.branch_core.specs.RecordIndex.{IndexesFirst}
use Rattle.branch_core.proofs.assembling.places_of.Given as goal

abbrev pub invariant-loop-place : goal.invariant-loop-place
invariant-loop-place l = IndexesFirst l.place l.records l.places
