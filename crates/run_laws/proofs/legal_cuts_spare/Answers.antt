use Rattle.run_laws.proofs.Spared.{legal_spare}
use Rattle.run_laws.proofs.legal_cuts_spare.Goals as goal

pub returns : goal.returns
returns c = legal_spare
