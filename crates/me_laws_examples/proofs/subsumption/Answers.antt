use Rattle.me_laws_examples.proofs.SubsumptionCases.{subsumption}
use Rattle.me_laws_examples.proofs.subsumption.Goals as goal

pub returns : goal.returns
returns c = subsumption
