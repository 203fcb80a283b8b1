use Rattle.run_laws.proofs.PortionInRun.{portions_fit}
use Rattle.run_laws.proofs.portions_fit_runs.Goals as goal

pub returns : goal.returns
returns c = portions_fit
