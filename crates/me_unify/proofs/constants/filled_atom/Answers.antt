use Rattle.std.proofs.Common.{◌≡◌, subst}
use Rattle.me_terms.specs.Terms.{AtomValue, arguments_of}
use Rattle.me_terms.specs.Substitutions.{apply_atom}
use Rattle.me_terms.specs.ListedInstances.{constant}
use Rattle.me_unify.proofs.constants.filled_atom.Goals as goal

pub returns : goal.returns
returns c =
    let P : AtomValue → Type 0 = λ a. record { pred = c.atom.inside.pred; args = arguments_of c.in_ok-filled_all.field-0.items } ≡ apply_atom (λ x. constant c.args.c0) a in
    subst P c.atom.view_is (λ i. record { pred = c.atom.inside.pred; args = c.in_ok-filled_all.ensures i })
