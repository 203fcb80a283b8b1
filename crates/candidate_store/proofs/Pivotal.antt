-- The places at which the pivots of candidates stand.
use Rattle.std.proofs.Common.{◌≡◌, ℕ, ◌+◌, ◌<◌, Bool, true, false, ltb, List, [], get_or, slice_get, Option, Some, None, refl, sym, subst, ◌∙◌, arith}
use Rattle.std.specs.List.{Contains}
use Rattle.std.proofs.lemmas.Bool.{ltb-true, ltb-false, le-ltb}
use Rattle.std.proofs.lemmas.Option.{slice_get_within}
use Rattle.me_terms.specs.Terms.{AtomValue}
use Rattle.me_terms.specs.Substitutions.{Substitution, Family}
use Rattle.me_terms.specs.Values.{ProblemValue, ClauseValue, EntryValue}
use Rattle.me_terms.specs.Context.{Context}
use Rattle.me_terms.specs.Contradictory.{Unifiable}
use Rattle.me_terms.specs.Positions.{ClauseAt, positions_of}
use Rattle.me_terms.specs.Unifier.{IsSolvedBy, IsContextUnifier}
use Rattle.me_terms.specs.Close.{IsClose}
use Rattle.me_terms.specs.Assert.{IsAssert}
use Rattle.me_terms.specs.Productive.{IsProductiveUnifier}
use Rattle.me_terms.specs.declared.bounds.Bounds.{Bounds}
use Rattle.me_terms.specs.declared.atom.Pattern.{Pattern}
use Rattle.me_terms.specs.declared.atom.Pattern.TheVariants.{Any, Of}
use Rattle.me_laws_increments.specs.Pairs.{IsPair}
use Rattle.me_laws_increments.specs.Pivots.{IsPivot}
use Rattle.me_laws_increments.proofs.Places.{there}
use Rattle.clause_pairs.specs.declared.clause_place.ClausePlace.{ClausePlace}
use Rattle.clause_pairs.specs.Values.{PairsValue}
use Rattle.clause_pairs.specs.Pairs.{ArePairs}
use Rattle.tuple_search.specs.Targets.{unskipped_place}
use Rattle.tuple_search.proofs.Unifiers.{position_there}
use Rattle.candidate_store.specs.Searches.{At, AssertsAt, index_of}

solved_unifies : (s t : Substitution) (p : Pattern) (a : AtomValue) → IsSolvedBy s p t a → Unifiable p (Of a)
solved_unifies s t Any a h = tt
solved_unifies s t (Of b) a h = (s, t, h)

module _ (problem : ProblemValue) (context : Context) (v : PairsValue) (pairs : ArePairs problem context v) where
  -- what stands at a place of a context unifier is paired with it
  pub paired : (c : ℕ) (clause : ClauseValue) (skip : Option ℕ) (tuple : List ℕ) (u : Family) (j p : ℕ) → ClauseAt problem c clause → IsContextUnifier context clause.literals skip tuple u → slice_get (positions_of skip tuple) j ≡ Some (Some p) → 0 < p → Contains (get_or v.entered p []) (record { clause = c; place = j })
  paired c clause skip tuple u j p clause_at h at positive =
      let within = slice_get_within (positions_of skip tuple) j (Some p) at in
      let long = h.opposite.each_place in
      let l = there clause.literals j (omega (arith, within, long)) in
      let seen = h.opposite.visible j p l.0 l.1 at in
      let solved = h.unifier.solves j p l.0 seen.0 (record { literal = l.1; position = at; stands = seen.1.0 }) in
      let pair : IsPair seen.0 l.0 = (seen.2, solved_unifies (u (j + 1)) (u 0) seen.0.atom l.0.atom solved) in
      (pairs.places p seen.0 positive seen.1.0 (record { clause = c; place = j })).1 (l.0, (clause, clause_at, l.1), pair)

  pub close_place : (c : ℕ) (tuple : List ℕ) (p i : ℕ) → IsClose problem context c tuple → IsPivot tuple p i → 0 < p → (q : ClausePlace) × Contains (get_or v.entered p []) q × At q p c tuple
  close_place c tuple p i h pivot positive =
      (record { clause = c; place = i }, paired c h.clause None tuple h.family i p h.clause_at h.unifier (position_there None tuple i p pivot.at) positive, (refl, pivot))

  pub productive_place : (c : ℕ) (tuple : List ℕ) (clause : ClauseValue) (family : Family) (p i : ℕ) → IsProductiveUnifier problem context c tuple clause family → IsPivot tuple p i → 0 < p → (q : ClausePlace) × Contains (get_or v.entered p []) q × At q p c tuple
  productive_place c tuple clause family p i h pivot positive =
      (record { clause = c; place = i }, paired c clause None tuple family i p h.clause_at h.unifier (position_there None tuple i p pivot.at) positive, (refl, pivot))

  -- ---- beside a skipped place
  apart_by : (skip i : ℕ) (b : Bool) → ltb i skip ≡ b → ¬ (skip ≡ unskipped_place (Some skip) i)
  apart_by skip i true e h = let less = ltb-true i skip e in let same : skip ≡ i = h ∙ rw e refl in omega (arith, less, same)
  apart_by skip i false e h = let ge = ltb-false i skip e in let same : skip ≡ i + 1 = h ∙ rw e refl in omega (arith, ge, same)

  index_by : (skip i : ℕ) (b : Bool) → ltb i skip ≡ b → index_of skip (unskipped_place (Some skip) i) ≡ i
  index_by skip i true e = rw (e, e) refl
  index_by skip i false e =
      let ge = ltb-false i skip e in
      let is : unskipped_place (Some skip) i ≡ i + 1 = rw e refl in
      let past : ltb (i + 1) skip ≡ false = le-ltb (i + 1) skip (omega arith) in
      let P : ℕ → Type 0 = λ z. index_of skip z ≡ i in
      let at : P (i + 1) = rw past (omega arith) in
      subst P (sym is) at

  pub assert_place : (bounds : Bounds) (c place : ℕ) (tuple : List ℕ) (e : EntryValue) (p i : ℕ) → IsAssert problem bounds context c place tuple e → IsPivot tuple p i → 0 < p → (q : ClausePlace) × Contains (get_or v.entered p []) q × AssertsAt q p c place tuple
  assert_place bounds c place tuple e p i h pivot positive =
      let j = unskipped_place (Some place) i in
      let P : ℕ → Type 0 = λ z. IsPivot tuple p z in (
        record { clause = c; place = j },
        paired c h.clause (Some place) tuple h.family j p h.clause_at h.unifier (position_there (Some place) tuple i p pivot.at) positive,
        (refl, apart_by place i (ltb i place) refl, subst P (sym (index_by place i (ltb i place) refl)) pivot),
      )
