use Rattle.me_laws_examples.proofs.MergedVariables.{merged_variables_close}
use Rattle.me_laws_examples.proofs.merged_variables_close.Goals as goal

pub returns : goal.returns
returns c = merged_variables_close
