use Rattle.me_laws.proofs.Generality.{clash_symmetric}
use Rattle.me_laws.proofs.clash_is_symmetric.Goals as goal

pub returns : goal.returns
returns c = clash_symmetric
