use Rattle.szs_print.proofs.answer.print_answer.Goals as goal

pub returns-in-Satisfiable : goal.returns-in-Satisfiable
returns-in-Satisfiable c =
    rw (c.in-Satisfiable.is, ← c.as_slice-name.ensures, ← c.problem.view_is, ← c.as_slice-in-Satisfiable.ensures) c.print_model.ensures
