use Rattle.std.proofs.Common.{◌≡◌, [], subst}
use Rattle.me_terms.specs.Terms.{AtomValue, arguments_of}
use Rattle.me_terms.specs.Substitutions.{apply_arguments}
use Rattle.me_terms.specs.Variables.{variables_of, first_ones, canonical}
use Rattle.me_terms.specs.Names.{by_place}
use Rattle.me_terms.proofs.Numbered.{canonical_args}
use Rattle.me_terms.proofs.canonical_form.numbered_atom.Goals as goal

pub returns : goal.returns
returns c =
    let args : arguments_of c.in_ok-numbered_all.field-0.items ≡ apply_arguments (by_place (first_ones [] (variables_of (arguments_of c.atom.inside.args.items)))) (arguments_of c.atom.inside.args.items) =
    canonical_args c.args.names.now.keys c.numbered_all.new.names.keys (arguments_of c.atom.inside.args.items) (arguments_of c.in_ok-numbered_all.field-0.items) c.requires c.in_ok-numbered_all.ensures.names (c.in_ok-numbered_all.ensures.terms []) in
    let P : AtomValue → Type 0 = λ a. record { pred = c.atom.inside.pred; args = arguments_of c.in_ok-numbered_all.field-0.items } ≡ canonical a in
    subst P c.atom.view_is (λ i. record { pred = c.atom.inside.pred; args = args i })
