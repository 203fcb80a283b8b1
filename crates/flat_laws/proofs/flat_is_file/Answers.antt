use Rattle.flat_laws.proofs.Filing.{flat_is_file}
use Rattle.flat_laws.proofs.flat_is_file.Goals as goal

pub returns : goal.returns
returns c = flat_is_file
