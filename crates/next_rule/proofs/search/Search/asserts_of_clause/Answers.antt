use Rattle.std.proofs.Common.{ℕ, ◌≡◌, length, subst, ap, arith}
use Rattle.me_terms.specs.Values.{ClauseValue}
use Rattle.next_rule.specs.AssertSearches.{AssertPlaces, TakesAsserts}
use Rattle.next_rule.proofs.AssertSteps.{assert_place_step, assert_places_end}
use Rattle.next_rule.proofs.search.Search.asserts_of_clause.Goals as goal

pub loop-place-preserved : goal.loop-place-preserved
loop-place-preserved g c =
    let a = c.args in
    assert_place_step a.self.now.problem.now a.self.now.bounds.now (g.V.View.context a.self.now.view.now) a.index c.loop-place.place a.best c.loop-place.best c.in_ok-best.best c.loop-place.invariant c.in_ok-best.ensures

pub returns : goal.returns
returns g c =
    let a = c.args in
    let context = g.V.View.context a.self.now.view.now in
    let same : c.loop-place.place ≡ length a.clause.now.literals = omega (arith, c.len-places.ensures, ap (λ (z : ClauseValue). length z.literals) c.clause.view_is) in
    let P : ℕ → Type 0 = λ n. TakesAsserts a.self.now.problem.now a.self.now.bounds.now context (AssertPlaces a.index n) a.best c.loop-place.best in
    assert_places_end a.self.now.problem.now a.self.now.bounds.now context a.index a.clause.now a.best c.loop-place.best c.requires.clause_at (subst P same c.loop-place.invariant)
