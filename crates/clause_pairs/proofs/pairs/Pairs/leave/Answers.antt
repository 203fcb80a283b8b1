use Rattle.std.proofs.Common.{◌≡◌, ◌≤◌, List, length, subst, arith}
use Rattle.std.proofs.lemmas.List.{length_push}
use Rattle.me_terms.specs.Context.{add}
use Rattle.clause_pairs.specs.declared.clause_place.ClausePlace.{ClausePlace}
use Rattle.clause_pairs.specs.Lists.{without, put_all}
use Rattle.clause_pairs.specs.Values.{lists_of}
use Rattle.clause_pairs.proofs.Entering.{as_many_entered, leave_places, after_leave}
use Rattle.clause_pairs.proofs.pairs.Pairs.leave.Goals as goal

pub overflow_cast-position : goal.overflow_cast-position
overflow_cast-position c =
    let fits = rw (← c.self.view_is) at c.requires.fits in
    let many = as_many_entered fits.0 (add fits.1 fits.2) c.self.inside.lists.items c.self.inside.entered.items c.self.inside.index fits.3 in
    let len = length_push fits.1 fits.2 in
    let few = fits.5 in
    let one = c.in-Some.ensures.cases in
    let small : c.len-position.result ≤ 65535 = omega (arith, many, len, few, one) in
    omega (arith, small)

pub take_all_at-requires : goal.take_all_at-requires
take_all_at-requires c =
    let fits = rw (← c.self.view_is) at c.requires.fits in
    rw c.deref.ensures.value (leave_places fits.0 fits.1 fits.2 c.self.inside.lists.items c.self.inside.entered.items c.pop.new.self.items c.self.inside.index c.in-Some.places fits.3 fits.4 c.in-Some.ensures.items)

pub returns : goal.returns
returns c problem context e given some =
    let h = rw (← c.self.view_is) at given in
    let P : List ClausePlace → Type 0 = λ z. lists_of c.take_all_at.new.lists.items ≡ put_all (without c.len-position.result) (lists_of c.self.inside.lists.items) z in
    let is_k : c.len-position.result ≡ length c.pop.new.self.items = omega arith in
    after_leave problem context e c.self.inside.lists.items c.self.inside.entered.items c.pop.new.self.items c.self.inside.index c.in-Some.places h some c.in-Some.ensures.items c.len-position.result c.take_all_at.new.lists.items is_k (subst P c.deref.ensures.value c.take_all_at.ensures)
