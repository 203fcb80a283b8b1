use Rattle.answer_check.proofs.Refuting.{refuted}
use Rattle.answer_check.proofs.laws.shown_refutations_are_refuted.Goals as goal

pub returns : goal.returns
returns c = λ problem lines shown. refuted problem lines c.lists_of_instances_are_clauses.ensures shown
