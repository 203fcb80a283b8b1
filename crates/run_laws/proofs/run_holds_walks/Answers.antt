use Rattle.run_laws.proofs.WalksInRun.{run_holds_walks}
use Rattle.run_laws.proofs.run_holds_walks.Goals as goal

pub returns : goal.returns
returns c = run_holds_walks
