use Rattle.std.proofs.Common.{◌≡◌, ◌++◌, map, drop}
use Rattle.tptp_include.specs.Views.{names_of}
use Rattle.tptp_include.proofs.names.again.Given as goal

-- the names so far and those that are left
abbrev pub invariant-names : goal.invariant-names
invariant-names l = names_of l.copy ++ map (λ name. name.items) (drop l.name-index l.name-items) ≡ names_of l.names
