use Rattle.std.proofs.Common.{◌≡◌, drop}
use Rattle.tptp_include.specs.Outcomes.{unnamed}
use Rattle.tptp_include.proofs.flat.first_unnamed.Given as goal

-- the first one is that of the labels that are left
abbrev pub invariant-labels : goal.invariant-labels
invariant-labels l = unnamed l.labels l.formulas ≡ unnamed (drop l.label-index l.labels) l.formulas
