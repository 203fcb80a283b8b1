-- What stands at the places of a clause.
use Rattle.std.proofs.Common.{◌≡◌, ℕ, zero, suc, ◌+◌, ◌-◌, ◌<◌, ◌≤◌, ◌⊎◌, inl, inr, ◌↔◌, Bool, IsTrue, List, [], ◌∷◌, length, get_or, map, slice_get, Option, Some, None, refl, sym, subst, ap, ◌∙◌, arith}
use Rattle.std.specs.List.{insert}
use Rattle.std.proofs.lemmas.Bool.{cases_lt}
use Rattle.std.proofs.lemmas.Option.{same_Some, none-some, slice_get_within, slice_get-get_or}
use Rattle.std.proofs.lemmas.List.{length-map}
use Rattle.me_terms.specs.Context.{Context}
use Rattle.me_terms.specs.Positions.{positions_of, AreOpposite}
use Rattle.me_terms.specs.declared.atom.Literal.{Literal}
use Rattle.joint_unifiers.specs.ClauseUnifiers.{IsSkip}
use Rattle.joint_unifiers.specs.Places.{IsPlaceOf}
use Rattle.kept_asserts.specs.Held.{OpposesAt, OpposesWhere, position_count}

-- ---- positions with one place left out
inserted_length : (xs : List (Option ℕ)) (skip : ℕ) → length (insert xs skip None) ≡ length xs + 1
inserted_length xs zero = omega arith
inserted_length [] (suc skip) = omega arith
inserted_length (x ∷ xs) (suc skip) = let e = inserted_length xs skip in omega (arith, e)

pub count_is : (skip : Option ℕ) (tuple : List ℕ) → length (positions_of skip tuple) ≡ position_count skip tuple
count_is None tuple = length-map tuple Some
count_is (Some skip) tuple = let e = inserted_length (map Some tuple) skip in let len = length-map tuple Some in omega (arith, e, len)

mapped : (tuple : List ℕ) (i k : ℕ) → slice_get tuple i ≡ Some k → slice_get (map Some tuple) i ≡ Some (Some k)
mapped [] i k h = cc
mapped (x ∷ tuple) zero k h = ap (λ (z : Option ℕ). Some z) h
mapped (x ∷ tuple) (suc i) k h = mapped tuple i k h

-- the position at a place before the skipped one, there, and behind it
before_skip : (xs : List (Option ℕ)) (skip i : ℕ) (o : Option ℕ) → i < skip → slice_get xs i ≡ Some o → slice_get (insert xs skip None) i ≡ Some o
before_skip xs zero i o lt h = absurd (omega arith)
before_skip [] (suc skip) i o lt h = cc
before_skip (x ∷ xs) (suc skip) zero o lt h = h
before_skip (x ∷ xs) (suc skip) (suc i) o lt h = before_skip xs skip i o (omega arith) h

at_skip : (xs : List (Option ℕ)) (skip : ℕ) → skip < length xs + 1 → slice_get (insert xs skip None) skip ≡ Some None
at_skip xs zero lt = refl
at_skip [] (suc skip) lt = absurd (omega arith)
at_skip (x ∷ xs) (suc skip) lt = at_skip xs skip (omega arith)

behind_skip : (xs : List (Option ℕ)) (skip i : ℕ) (o : Option ℕ) → skip ≤ i → slice_get xs i ≡ Some o → slice_get (insert xs skip None) (suc i) ≡ Some o
behind_skip xs zero i o le h = h
behind_skip [] (suc skip) i o le h = cc
behind_skip (x ∷ xs) (suc skip) zero o le h = absurd (omega arith)
behind_skip (x ∷ xs) (suc skip) (suc i) o le h = behind_skip xs skip i o (omega arith) h

-- the same by what is read of the tuple
read_mapped : (tuple : List ℕ) (i : ℕ) (r : Option ℕ) → i < length tuple → r ≡ slice_get tuple i → slice_get (map Some tuple) i ≡ Some r
read_mapped tuple i r lt is =
    let k = get_or tuple i 0 in
    let at = slice_get-get_or tuple i 0 lt in
    mapped tuple i k at ∙ ap (λ (z : Option ℕ). Some z) (sym at ∙ sym is)

pub position_alone : (tuple : List ℕ) (i : ℕ) (r : Option ℕ) → i < length tuple → r ≡ slice_get tuple i → slice_get (positions_of None tuple) i ≡ Some r
position_alone tuple i r lt is = read_mapped tuple i r lt is

pub position_before : (tuple : List ℕ) (skip i : ℕ) (r : Option ℕ) → i < skip → skip < length tuple + 1 → r ≡ slice_get tuple i → slice_get (positions_of (Some skip) tuple) i ≡ Some r
position_before tuple skip i r lt within is = before_skip (map Some tuple) skip i r lt (read_mapped tuple i r (omega (arith, lt, within)) is)

pub position_none : (tuple : List ℕ) (skip : ℕ) → skip < length tuple + 1 → slice_get (positions_of (Some skip) tuple) skip ≡ Some None
position_none tuple skip lt = let len = length-map tuple Some in at_skip (map Some tuple) skip (omega (arith, lt, len))

pub position_behind : (tuple : List ℕ) (skip i : ℕ) (r : Option ℕ) → skip < i → i < length tuple + 1 → r ≡ slice_get tuple (i - 1) → slice_get (positions_of (Some skip) tuple) i ≡ Some r
position_behind tuple skip zero r lt within is = absurd (omega arith)
position_behind tuple skip (suc i) r lt within is =
    let same : suc i - 1 ≡ i = omega arith in
    behind_skip (map Some tuple) skip i r (omega arith) (read_mapped tuple i r (omega (arith, within)) (is ∙ ap (slice_get tuple) same))

pub position_read : (tuple : List ℕ) (skip i d : ℕ) → skip < i → i < length tuple + 1 → slice_get (positions_of (Some skip) tuple) i ≡ Some (Some (get_or tuple (i - 1) d))
position_read tuple skip i d lt within = position_behind tuple skip i (Some (get_or tuple (i - 1) d)) lt within (sym (slice_get-get_or tuple (i - 1) d (omega arith)))

pub is_place : (skip : Option ℕ) (literals : List Literal) (tuple : List ℕ) → IsSkip skip literals → position_count skip tuple ≡ length literals → IsPlaceOf skip (position_count skip tuple)
is_place None literals tuple h same = tt
is_place (Some skip) literals tuple h same = omega (arith, h, same)

-- ---- the places one after another
module _ (context : Context) (literals : List Literal) (positions : List (Option ℕ)) where
  -- At the first n places each entry that stands there is opposed.
  abbrev pub AreOpposed : ℕ → Type 0
  AreOpposed n =
      (i k : ℕ) (l : Literal) → i < n → slice_get literals i ≡ Some l → slice_get positions i ≡ Some (Some k) → OpposesAt context k l

  place_cases : (i n : ℕ) → i < n + 1 → (i < n) ⊎ (i ≡ n)
  place_cases i n h = elim (cases_lt i n) as (λ _. (i < n) ⊎ (i ≡ n)) [ inl l ↦ inl l | inr g ↦ inr (omega arith) ]

  pub opposed_more : (n : ℕ) (l : Literal) → slice_get literals n ≡ Some l → ((k : ℕ) → slice_get positions n ≡ Some (Some k) → OpposesAt context k l) → AreOpposed n → AreOpposed (n + 1)
  opposed_more n l at here h i k m lt literal position =
      elim (place_cases i n lt) as (λ _. OpposesAt context k m) [
        | inl old ↦ h i k m old literal position
        | inr new ↦
            (let P : ℕ → Type 0 = λ z. slice_get literals z ≡ Some m in
            let Q : ℕ → Type 0 = λ z. slice_get positions z ≡ Some (Some k) in
            let R : Literal → Type 0 = λ z. OpposesAt context k z in
            subst R (same_Some l m (sym at ∙ subst P new literal)) (here k (subst Q new position)))
      ]

  pub opposite_all : (n : ℕ) → length positions ≡ length literals → length literals ≤ n → AreOpposed n → AreOpposite context literals positions
  opposite_all n long all h = record {
    each_place = long;
    visible = λ i k l literal position. h i k l (let lt = slice_get_within literals i l literal in omega (arith, lt, all)) literal position;
  }

-- ---- what the position at one place says
module _ (context : Context) (l : Literal) (at : Option (Option ℕ)) where
  pub opposes_some : (k : ℕ) (b : Bool) → at ≡ Some (Some k) → IsTrue b ↔ OpposesAt context k l → IsTrue b ↔ OpposesWhere context at l
  opposes_some k b is h = (
    λ t other same. (let P : ℕ → Type 0 = λ z. OpposesAt context z l in
        let there : Some k ≡ Some other = same_Some (Some k) (Some other) (sym is ∙ same) in
        subst P (same_Some k other there) (h.0 t)),
    λ all. h.1 (all k is),
  )

  pub opposes_none : at ≡ Some None → OpposesWhere context at l
  opposes_none is k same = absurd (let e : Some None ≡ Some (Some k) = sym is ∙ same in let f = same_Some None (Some k) e in none-some k f)
