use Rattle.me_laws_existence.proofs.SolvesDecided.{solves_decided}
use Rattle.me_laws_existence.proofs.solvability_is_decided.Goals as goal

pub returns : goal.returns
returns c = solves_decided
