use Rattle.me_laws_increments.proofs.Pairs.{ground_places_by_kind}
use Rattle.me_laws_increments.proofs.ground_places_by_kind.Goals as goal

pub returns : goal.returns
returns c = ground_places_by_kind
