use Rattle.me_terms.specs.Deepening.{at_depth}
use Rattle.me_laws.proofs.Grown.{grown}
use Rattle.me_laws.proofs.SatisfiableModel.{satisfiable_exhausted}
use Rattle.answer_check.proofs.PrintedModels.{printed_shown}
use Rattle.answer_check.proofs.laws.printed_models_are_shown.Goals as goal

pub returns : goal.returns
returns c = λ problem bounds from context positive lines reply first are.
    let h = satisfiable_exhausted problem (at_depth bounds reply.0) context reply.1.answered in
    let whole = grown h.0 in
    printed_shown problem context positive lines whole.0 whole.1 h.1.2 first are
