use Rattle.szs_read.proofs.Printing.{printed_refutation}
use Rattle.szs_read.proofs.laws.printed_refutations_are_answers.Goals as goal

pub returns : goal.returns
returns c = printed_refutation
