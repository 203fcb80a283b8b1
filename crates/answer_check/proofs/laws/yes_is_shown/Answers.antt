use Rattle.answer_check.proofs.Exactness.{claim_exact}
use Rattle.answer_check.proofs.laws.yes_is_shown.Goals as goal

pub returns : goal.returns
returns c = claim_exact
