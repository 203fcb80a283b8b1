use Rattle.clause_pairs.specs.Meetings.{IsAgainst, AddsPlaces}
use Rattle.clause_pairs.proofs.Looked.{IsAmongFirst}
use Rattle.clause_pairs.proofs.meeting.add_among.Given as goal

abbrev pub invariant-loop-at : goal.invariant-loop-at
invariant-loop-at l = AddsPlaces l.fn.places.items l.places.items (IsAmongFirst (λ q. IsAgainst l.problem l.entry q) l.listed l.fn.places.items l.at-index)
