use Rattle.std.proofs.Common.{ap}
use Rattle.me_terms.specs.declared.atom.Literal.{Literal}
use Rattle.answer_check.proofs.RightLines.{canonical_itself, same_tells}
use Rattle.answer_check.proofs.model.has_canonical_atom.Goals as goal

pub returns : goal.returns
returns c =
    let atom = c.args.line.now.literal.atom in
    let form = c.in_ok-form.form.atom in
    canonical_itself atom form c.eq.result (ap (λ (z : Literal). z.atom) c.in_ok-form.ensures) (same_tells form atom c.eq.result c.eq.ensures)
