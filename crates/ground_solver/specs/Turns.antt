-- What a turn of the search comes to.
use Rattle.std.specs.Prelude.{◌<◌, ◌≤◌}
use Rattle.ground_solver.specs.Numbered.{Clauses}
use Rattle.ground_solver.specs.Standings.{AreTrueFrom, IsRefutedAt}
use Rattle.ground_solver.specs.Underway.{work}
use Rattle.ground_solver.specs.declared.search.Search.{Search}
use Rattle.ground_solver.specs.declared.solving.Turn.{Turn}
use Rattle.ground_solver.specs.declared.solving.Turn.TheVariants.{Fixed, Refuted, Satisfied}

-- Less is left to do, or a clause has only false literals, or each has a true one.
abbrev pub IsTurn : Clauses → Search → Search → Turn → Type 0
IsTurn clauses s t Fixed = work t.values.items t.trail.items < work s.values.items s.trail.items
IsTurn clauses s t (Refuted place) = IsRefutedAt clauses t.values.items place × (work t.values.items t.trail.items ≤ work s.values.items s.trail.items)
IsTurn clauses s t Satisfied = AreTrueFrom clauses t.values.items 0
