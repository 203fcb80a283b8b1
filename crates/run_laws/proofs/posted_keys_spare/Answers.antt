use Rattle.run_laws.proofs.Spared.{posted_spare}
use Rattle.run_laws.proofs.posted_keys_spare.Goals as goal

pub returns : goal.returns
returns c = posted_spare
