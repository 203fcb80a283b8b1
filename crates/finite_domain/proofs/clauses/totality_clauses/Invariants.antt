use Rattle.std.proofs.Common.{◌≡◌, take}
use Rattle.finite_domain.specs.Flat.{numbered_from, totalities_from}
use Rattle.finite_domain.proofs.clauses.totality_clauses.Given as goal

abbrev pub invariant-functions : goal.invariant-functions
invariant-functions l = l.made.items ≡ numbered_from 1 (totalities_from l.n 0 (take l.j l.signature.functions))
