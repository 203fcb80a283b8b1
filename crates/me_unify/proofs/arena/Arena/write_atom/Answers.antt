use Rattle.std.proofs.Common.{◌≡◌, [], ap, subst}
use Rattle.me_terms.specs.Terms.{AtomValue, arguments_of}
use Rattle.me_terms.specs.Substitutions.{apply_atom, apply_arguments}
use Rattle.me_terms.specs.Variables.{canonical}
use Rattle.me_terms.proofs.Numbered.{canonical_args}
use Rattle.me_unify.specs.Left.{numbers}
use Rattle.me_unify.proofs.arena.Arena.write_atom.Goals as goal

pub returns : goal.returns
returns c u read =
    let args = canonical_args (numbers c.args.names.now.keys) (numbers c.write_terms.new.names.keys) (apply_arguments (u c.args.space) (arguments_of c.atom.inside.args.items)) (arguments_of c.in_ok-write_terms.field-0.items)
    (ap numbers c.requires.first) (c.in_ok-write_terms.ensures.names u read) (c.in_ok-write_terms.ensures.terms u read []) in
    let P : AtomValue → Type 0 = λ a. record { pred = c.atom.inside.pred; args = arguments_of c.in_ok-write_terms.field-0.items } ≡ canonical (apply_atom (u c.args.space) a) in
    subst P c.atom.view_is (λ i. record { pred = c.atom.inside.pred; args = args i })
