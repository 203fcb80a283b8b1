use Rattle.std.proofs.Common.{◌≡◌, ◌++◌, drop}
use Rattle.tptp_include.specs.Flat.{text_of}
use Rattle.tptp_include.proofs.flat.Flat.text.Given as goal

-- the text so far and that of the formulas that are left
abbrev pub invariant-formulas : goal.invariant-formulas
invariant-formulas l = l.text.items ++ text_of (drop l.formula-index l.formula-items) ≡ text_of l.self
