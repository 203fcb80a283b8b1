use Rattle.me_laws_refutation.proofs.Refuted.{closed_refuted}
use Rattle.me_laws_refutation.proofs.closed_is_refuted.Goals as goal

pub returns : goal.returns
returns c = closed_refuted
