use Rattle.me_laws_existence.proofs.NextStep.{least_candidates}
use Rattle.me_laws_existence.proofs.candidates_are_decided.Goals as goal

pub returns : goal.returns
returns c = least_candidates
