use Rattle.me_laws_increments.specs.Pairs.{IsPair}
use Rattle.clause_pairs.proofs.Against.{HasFirst}
use Rattle.clause_pairs.proofs.meeting.places_against.Given as goal

abbrev pub invariant-loop-c : goal.invariant-loop-c
invariant-loop-c l = HasFirst l.problem (λ m. IsPair l.entry m) l.c l.places.items
