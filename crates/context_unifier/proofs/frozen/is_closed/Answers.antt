use Rattle.std.proofs.Common.{sym, ◌∙◌}
use Rattle.me_unify.proofs.MostGeneralExists.{most_general_exists}
use Rattle.context_unifier.proofs.frozen.is_closed.Goals as goal

pub returns-clause-closed : goal.returns-clause-closed
returns-clause-closed c h =
    let u = most_general_exists c.args.bindings.now c.mark-solvable.ensures.solvable in
    (u.0, (u.1, sym (c.in_ok-measure.ensures.measure u.0 u.1).ground ∙ h))
