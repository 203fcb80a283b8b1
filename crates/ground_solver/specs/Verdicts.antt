-- What is said of clauses over numbers.
use Rattle.std.specs.Prelude.{◌≡◌, ℕ, length}
use Rattle.std.specs.List.{All}
use Rattle.ground_solver.specs.Numbered.{Clauses, AreClosing, IsNodeWithin}
use Rattle.ground_solver.specs.Standings.{AreTrueFrom}
use Rattle.ground_solver.specs.declared.solving.Verdict.{Verdict}
use Rattle.ground_solver.specs.declared.solving.Verdict.TheVariants.{Satisfied, Closed}

-- Each clause has a true literal, or the nodes of a tree of cases close the clauses.
abbrev pub IsVerdict : Clauses → ℕ → Verdict → Type 0
IsVerdict clauses atoms (Satisfied values) = (length values.items ≡ atoms) × AreTrueFrom clauses values.items 0
IsVerdict clauses atoms (Closed steps) = AreClosing clauses steps.items × All (IsNodeWithin atoms) steps.items
