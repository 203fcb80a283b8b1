use Rattle.run_laws.proofs.ClosedRun.{closed_run}
use Rattle.run_laws.proofs.closed_run_exists.Goals as goal

pub returns : goal.returns
returns c = closed_run
