use Rattle.me_laws_increments.specs.Pairs.{IsPair}
use Rattle.clause_pairs.specs.Meetings.{AddsPlaces}
use Rattle.clause_pairs.proofs.Against.{OfFirst}
use Rattle.clause_pairs.proofs.meeting.add_clause.Given as goal

-- The places so far are those that were given, and those of the first i literals.
abbrev pub invariant-loop-i : goal.invariant-loop-i
invariant-loop-i l = AddsPlaces l.fn.places.items l.places.items (OfFirst (λ m. IsPair l.entry m) l.literals l.c l.i)
