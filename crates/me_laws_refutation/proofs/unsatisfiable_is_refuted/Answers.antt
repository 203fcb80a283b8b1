use Rattle.me_laws_refutation.proofs.Answered.{unsatisfiable_refuted}
use Rattle.me_laws_refutation.proofs.unsatisfiable_is_refuted.Goals as goal

pub returns : goal.returns
returns c = unsatisfiable_refuted
