-- What a tuple of a context means is the same later.
use Rattle.std.proofs.Common.{◌≡◌, ℕ, zero, suc, ◌+◌, cond, ◌&&◌, ◌||◌, List, [], ◌∷◌, ◌++◌, map, slice_get, Option, Some, None, refl, sym, subst, ap, ◌∙◌, arith}
use Rattle.std.specs.List.{insert, list_all, Contains}
use Rattle.std.proofs.lemmas.Option.{same_Some, slice_get_within}
use Rattle.me_terms.specs.Substitutions.{Family}
use Rattle.me_terms.specs.Variables.{are_ground}
use Rattle.me_terms.specs.Measures.{complement}
use Rattle.me_terms.specs.Values.{EntryValue, Asserted}
use Rattle.me_terms.specs.Context.{Context, IsHidden}
use Rattle.me_terms.specs.Positions.{positions_of, entry_at, StandsAgainst, AreOpposite}
use Rattle.me_terms.specs.Unifier.{Solves, IsUnifier, unified}
use Rattle.me_terms.specs.Remainder.{remains_at, remainder_from}
use Rattle.me_terms.specs.Productive.{IsProductive}
use Rattle.me_terms.specs.Assert.{uses_universal}
use Rattle.me_terms.specs.declared.entry.Kind.TheVariants.{Universal, Parametric}
use Rattle.me_terms.specs.declared.atom.Literal.{Literal}
use Rattle.me_terms.specs.declared.atom.Pattern.TheVariants.{Of}
use Rattle.me_laws_increments.specs.Tuples.{IsWithin, AreVisible, OppositeIsWithin, OppositeWhileVisible, SolutionsStay, UnifiersStay, RemaindersStay, AssertedEntriesStay}
use Rattle.me_laws_increments.proofs.Replacement.{get_below, stands_later, seen_before}
use Rattle.me_laws_increments.proofs.Exceptions.{produced_before}
use Rattle.me_laws_increments.proofs.Places.{placed, there}

-- ---- the positions of a tuple
got_some : (tuple : List ℕ) (i k : ℕ) → slice_get (map Some tuple) i ≡ Some (Some k) → Contains tuple k
got_some [] i k h = cc
got_some (x ∷ xs) zero k h = (0, omega arith, same_Some x k (same_Some (Some x) (Some k) h))
got_some (x ∷ xs) (suc i) k h =
    let later = got_some xs i k h in (suc later.0, omega (arith, later.1), later.2)

got_inserted : (tuple : List ℕ) (skip i k : ℕ) → slice_get (insert (map Some tuple) skip None) i ≡ Some (Some k) → Contains tuple k
got_inserted [] zero zero k h = let same : None ≡ Some k = same_Some None (Some k) h in cc
got_inserted [] zero (suc i) k h = cc
got_inserted [] (suc skip) zero k h = let same : None ≡ Some k = same_Some None (Some k) h in cc
got_inserted [] (suc skip) (suc i) k h = cc
got_inserted (x ∷ xs) zero zero k h = let same : None ≡ Some k = same_Some None (Some k) h in cc
got_inserted (x ∷ xs) zero (suc i) k h = got_some (x ∷ xs) i k h
got_inserted (x ∷ xs) (suc skip) zero k h = (0, omega arith, same_Some x k (same_Some (Some x) (Some k) h))
got_inserted (x ∷ xs) (suc skip) (suc i) k h =
    let later = got_inserted xs skip i k h in (suc later.0, omega (arith, later.1), later.2)

pub got_position : (skip : Option ℕ) (tuple : List ℕ) (i k : ℕ) → slice_get (positions_of skip tuple) i ≡ Some (Some k) → Contains tuple k
got_position None tuple i k h = got_some tuple i k h
got_position (Some skip) tuple i k h = got_inserted tuple skip i k h

-- both contexts have the same at each of these positions
unfoldable pub Agree : Context → Context → List (Option ℕ) → Type 0
Agree context more positions =
    (i k : ℕ) → slice_get positions i ≡ Some (Some k) → slice_get context k ≡ slice_get (context ++ more) k

pub agree : (context more : Context) (skip : Option ℕ) (tuple : List ℕ) → IsWithin context tuple → Agree context more (positions_of skip tuple)
unfolding Agree
agree context more skip tuple within i k at =
    get_below context more k (within k (got_position skip tuple i k at))

module _ (context more : Context) (literals : List Literal) (positions : List (Option ℕ)) (same : Agree context more positions) where
  on : (i k : ℕ) (l : Literal) (e : EntryValue) → StandsAgainst context literals positions i l k e → StandsAgainst (context ++ more) literals positions i l k e
  unfolding Agree
  on i k l e h = record { literal = h.literal; position = h.position; stands = sym (same i k h.position) ∙ h.stands }

  back : (i k : ℕ) (l : Literal) (e : EntryValue) → StandsAgainst (context ++ more) literals positions i l k e → StandsAgainst context literals positions i l k e
  unfolding Agree
  back i k l e h = record { literal = h.literal; position = h.position; stands = same i k h.position ∙ h.stands }

  solves_on : (u : Family) → Solves context literals positions u → Solves (context ++ more) literals positions u
  solves_on u h = λ i k l e at. h i k l e (back i k l e at)

  solves_back : (u : Family) → Solves (context ++ more) literals positions u → Solves context literals positions u
  solves_back u h = λ i k l e at. h i k l e (on i k l e at)

  unifier_on : (u : Family) → IsUnifier context literals positions u → IsUnifier (context ++ more) literals positions u
  unifier_on u h = record { solves = solves_on u h.solves; most_general = λ v g. h.most_general v (solves_back v g) }

  pub unifier_back : (u : Family) → IsUnifier (context ++ more) literals positions u → IsUnifier context literals positions u
  unifier_back u h = record { solves = solves_back u h.solves; most_general = λ v g. h.most_general v (solves_on v g) }

  pub opposite_back : AreOpposite (context ++ more) literals positions → AreOpposite context literals positions
  unfolding Agree
  opposite_back h = record {
    each_place = h.each_place;
    visible = λ i k l at at'. let seen = h.visible i k l at at' in (seen.0, seen_before context more k seen.0 (same i k at' ∙ seen.1.0) seen.1, seen.2);
  }

  pub productive_back : (u : Family) → IsProductive (context ++ more) literals positions u → IsProductive context literals positions u
  productive_back u h = λ i k l e at. produced_before context more k e (complement (unified u l)) at.stands (h i k l e (on i k l e at))

-- ---- remainders and what is asserted
entry_same : (context more : Context) (o : Option ℕ) (ks : List (Option ℕ)) → Agree context more (o ∷ ks) → entry_at context o ≡ entry_at (context ++ more) o
unfolding Agree
entry_same context more None ks h = refl
entry_same context more (Some k) ks h = h 0 k refl

later : (context more : Context) (o : Option ℕ) (ks : List (Option ℕ)) → Agree context more (o ∷ ks) → Agree context more ks
unfolding Agree
later context more o ks h = λ i k at. h (suc i) k at

from_same : (i : ℕ) (context more : Context) (ks : List (Option ℕ)) (u : Family) → Agree context more ks → remainder_from i context ks u ≡ remainder_from i (context ++ more) ks u
from_same i context more [] u h = refl
from_same i context more (o ∷ ks) u h =
    let rest = from_same (i + 1) context more ks u (later context more o ks h) in
    let here = ap (λ e. remains_at e (u (i + 1))) (entry_same context more o ks h) in
    λ j. cond (here j) (i ∷ rest j) (rest j)

all_same : (context more : Context) (ks : List (Option ℕ)) → Agree context more ks → list_all (λ k. uses_universal (entry_at context k)) ks ≡ list_all (λ k. uses_universal (entry_at (context ++ more) k)) ks
all_same context more [] h = refl
all_same context more (o ∷ ks) h =
    let rest = all_same context more ks (later context more o ks h) in
    let here = ap uses_universal (entry_same context more o ks h) in
    λ j. here j && rest j

pub entries_same : AssertedEntriesStay
entries_same context more c place tuple l old =
    let all = all_same context more (positions_of (Some place) tuple) (agree context more (Some place) tuple old) in
    ap (λ b. record { positive = l.positive; atom = Of l.atom; kind = cond (b || are_ground l.atom.args) Universal Parametric; reason = Asserted c place tuple }) all

pub remainders_same : RemaindersStay
remainders_same context more skip tuple u old = from_same 0 context more (positions_of skip tuple) u (agree context more skip tuple old)

-- ---- which are set against the literals
pub visible_within : OppositeIsWithin
visible_within context literals skip tuple h = λ k at.
    let place = placed skip tuple k at in
    let lt = slice_get_within (positions_of skip tuple) place.0 (Some k) place.1 in
    let same = h.each_place in
    let l = there literals place.0 (omega (arith, lt, same)) in
    let seen = h.visible place.0 k l.0 l.1 place.1 in
    slice_get_within context k seen.0 seen.1.0

opposite_later : (context more : Context) (literals : List Literal) (skip : Option ℕ) (tuple : List ℕ) → AreOpposite context literals (positions_of skip tuple) → AreVisible (context ++ more) tuple → AreOpposite (context ++ more) literals (positions_of skip tuple)
opposite_later context more literals skip tuple h seen = record {
  each_place = h.each_place;
  visible = λ i k l at at'.
      let before = h.visible i k l at at' in
      let stands = stands_later context more k before.0 before.1.0 in
      (before.0, (stands, seen k before.0 (got_position skip tuple i k at') stands), before.2);
}

pub seen_of : (context : Context) (literals : List Literal) (skip : Option ℕ) (tuple : List ℕ) → AreOpposite context literals (positions_of skip tuple) → AreVisible context tuple
seen_of context literals skip tuple h = λ k e at stands.
    let place = placed skip tuple k at in
    let lt = slice_get_within (positions_of skip tuple) place.0 (Some k) place.1 in
    let same = h.each_place in
    let l = there literals place.0 (omega (arith, lt, same)) in
    let seen = h.visible place.0 k l.0 l.1 place.1 in
    let P : EntryValue → Type 0 = λ x. ¬ IsHidden context k x in
    subst P (same_Some seen.0 e (sym seen.1.0 ∙ stands)) seen.1.1

pub opposite_while_visible : OppositeWhileVisible
opposite_while_visible context more literals skip tuple within =
    let same = agree context more skip tuple within in
    ((λ h. (opposite_back context more literals (positions_of skip tuple) same h, seen_of (context ++ more) literals skip tuple h)), (λ h. opposite_later context more literals skip tuple h.0 h.1))

pub solutions_stay : SolutionsStay
solutions_stay context more literals skip tuple u within =
    let same = agree context more skip tuple within in
    (solves_on context more literals (positions_of skip tuple) same u, solves_back context more literals (positions_of skip tuple) same u)

pub unifiers_stay : UnifiersStay
unifiers_stay context more literals skip tuple u within =
    let same = agree context more skip tuple within in
    (unifier_on context more literals (positions_of skip tuple) same u, unifier_back context more literals (positions_of skip tuple) same u)
