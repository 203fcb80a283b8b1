use Rattle.std.proofs.Common.{◌≡◌, ◌+◌, subst}
use Rattle.me_terms.specs.Terms.{AtomValue, arguments_of}
use Rattle.finite_domain.specs.Flat.{own_atom}
use Rattle.finite_domain.proofs.Making.{own_made}
use Rattle.finite_domain.proofs.literals.own_atom.Goals as goal

pub returns : goal.returns
returns c =
    let relations = c.args.relations in
    let order = c.args.order.now.keys in
    let names = c.args.names.now.keys in
    let P : AtomValue → Type 0 = λ a. (record { pred = relations + c.place.result; args = arguments_of c.in_ok-args.args.items }) ≡ own_atom relations order names a in
    subst P c.atom.view_is (own_made relations order names c.atom.inside.args.items c.atom.inside.pred c.as_slice.result.now c.in_ok-args.args.items c.place.result c.as_slice.ensures c.in_ok-args.ensures c.place.ensures.place)
