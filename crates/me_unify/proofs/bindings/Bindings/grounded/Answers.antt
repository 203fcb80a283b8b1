use Rattle.std.proofs.Common.{ap, ◌∙◌}
use Rattle.me_terms.specs.Substitutions.{apply_literal}
use Rattle.me_terms.specs.ListedInstances.{constant}
use Rattle.me_unify.proofs.ReadOff.{constants_after}
use Rattle.me_unify.proofs.bindings.Bindings.grounded.Goals as goal

pub returns : goal.returns
returns c = record {
  instance = λ u general.
      c.in_ok-filled_literal.ensures ∙ (ap (apply_literal (λ x. constant c.args.c0)) (c.in_ok-form.ensures.form u general) ∙ constants_after c.args.c0 (apply_literal (u c.args.space) c.args.lit.now));
}
