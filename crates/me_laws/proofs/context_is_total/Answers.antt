use Rattle.me_laws.proofs.Totality.{total}
use Rattle.me_laws.proofs.context_is_total.Goals as goal

pub returns : goal.returns
returns c = total
