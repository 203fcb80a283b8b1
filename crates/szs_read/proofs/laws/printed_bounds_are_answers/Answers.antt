use Rattle.szs_read.proofs.Printing.{printed_bound}
use Rattle.szs_read.proofs.laws.printed_bounds_are_answers.Goals as goal

pub returns : goal.returns
returns c = printed_bound
