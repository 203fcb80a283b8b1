use Rattle.std.proofs.Common.{◌++◌, ap, sym, ◌∙◌}
use Rattle.me_terms.specs.Variables.{place_of}
use Rattle.me_terms.proofs.Numbered.{placed}
use Rattle.me_laws.specs.Pairing.{pair}
use Rattle.me_unify.specs.Left.{numbers}
use Rattle.me_unify.proofs.Names.{same_place, same_names}
use Rattle.me_unify.proofs.reading.number.Goals as goal

pub returns-clause-names : goal.returns-clause-names
returns-clause-names c = ap numbers c.in-Ok.ensures.keys ∙ same_names c.args.space c.args.var c.args.names.now.keys

pub returns-clause-number : goal.returns-clause-number
returns-clause-number c later =
    c.in-Ok.ensures.index
    ∙ (same_place c.args.space c.args.var c.args.names.now.keys
    ∙ (sym (placed (pair c.args.space c.args.var) (numbers c.args.names.now.keys) later)
    ∙ ap (λ z. place_of (pair c.args.space c.args.var) (z ++ later)) (sym (ap numbers c.in-Ok.ensures.keys ∙ same_names c.args.space c.args.var c.args.names.now.keys))))
