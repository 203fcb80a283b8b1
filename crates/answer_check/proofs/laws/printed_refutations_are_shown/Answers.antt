use Rattle.me_terms.specs.Deepening.{at_depth}
use Rattle.me_laws_refutation.proofs.Answered.{unsatisfiable_refuted}
use Rattle.answer_check.proofs.PrintedRefutations.{printed_refutation}
use Rattle.answer_check.proofs.laws.printed_refutations_are_shown.Goals as goal

pub returns : goal.returns
returns c = λ problem bounds from list lines valid reply are.
    let closed = unsatisfiable_refuted problem (at_depth bounds reply.0) list valid reply.1.answered in
    printed_refutation problem c.lists_of_instances_are_clauses.ensures list lines closed.0 are
