use Rattle.me_laws_examples.proofs.LeftVariable.{left_variable_is_read}
use Rattle.me_laws_examples.proofs.left_variable_is_read.Goals as goal

pub returns : goal.returns
returns c = left_variable_is_read
