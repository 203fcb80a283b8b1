use Rattle.me_laws.proofs.NoContradiction.{split_apart}
use Rattle.me_laws.proofs.split_is_apart.Goals as goal

pub returns : goal.returns
returns c = split_apart
