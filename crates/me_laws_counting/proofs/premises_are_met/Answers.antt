use Rattle.me_laws_counting.proofs.PremisesMet.{premises_met}
use Rattle.me_laws_counting.proofs.premises_are_met.Goals as goal

pub returns : goal.returns
returns c = premises_met
