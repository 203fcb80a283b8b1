use Rattle.me_laws_examples.proofs.OrderOfCandidates.{order_of_candidates}
use Rattle.me_laws_examples.proofs.order_of_candidates.Goals as goal

pub returns : goal.returns
returns c = order_of_candidates
