-- Whether the entries at positions are visible and opposite, and whether a context unifier is at them, is decided; the positions are in the context.
use Rattle.std.proofs.Common.{◌≡◌, ℕ, zero, suc, ◌<◌, ◌≤◌, not, ◌⊎◌, inl, inr, List, [], ◌∷◌, length, slice_get, Option, Some, None, refl, sym, subst, ◌∙◌, arith}
use Rattle.std.proofs.lemmas.Option.{slice_get_within, same_Some}
use Rattle.me_terms.specs.Substitutions.{Family}
use Rattle.me_terms.specs.Values.{EntryValue}
use Rattle.me_terms.specs.Context.{Context, StandsAt, IsHidden, IsVisible}
use Rattle.me_terms.specs.Positions.{AreOpposite, positions_of}
use Rattle.me_terms.specs.Unifier.{IsContextUnifier}
use Rattle.me_terms.specs.declared.atom.Literal.{Literal}
use Rattle.me_laws.proofs.Decisions.{both_decided, sign_decided, hidden_decided}
use Rattle.me_laws_existence.proofs.Solvable.{same_number}
use Rattle.me_laws_existence.proofs.SolvesDecided.{unifier_decided}
use Rattle.me_laws_existence.proofs.Codes.{Within}

abbrev Seen : Context → Literal → ℕ → Type 0
Seen context l k = (e : EntryValue) × IsVisible context k e × (e.positive ≡ not l.positive)

seen_of : (context : Context) (l : Literal) (k : ℕ) (e : EntryValue) → StandsAt context k e → IsHidden context k e ⊎ (¬ IsHidden context k e) → (e.positive ≡ not l.positive) ⊎ (¬ (e.positive ≡ not l.positive)) → Seen context l k ⊎ (¬ Seen context l k)
seen_of context l k e stands (inr free) (inl sign) = inl (e, (stands, free), sign)
seen_of context l k e stands (inl hidden) q =
    inr (λ h. let P : EntryValue → Type 0 = λ f. IsHidden context k f in h.1.1 (subst P (same_Some e h.0 (sym stands ∙ h.1.0)) hidden))
seen_of context l k e stands (inr free) (inr sign) =
    inr (λ h. let P : EntryValue → Type 0 = λ f. f.positive ≡ not l.positive in sign (subst P (same_Some h.0 e (sym h.1.0 ∙ stands)) h.2))

seen_by : (context : Context) (l : Literal) (k : ℕ) (o : Option EntryValue) → slice_get context k ≡ o → Seen context l k ⊎ (¬ Seen context l k)
seen_by context l k None e = inr (λ h. cc (e, h.1.0))
seen_by context l k (Some f) e = seen_of context l k f e (hidden_decided context k f) (sign_decided f.positive (not l.positive))

-- ---- what is decided at each place is decided at all places
abbrev pub AtPlaces : (Literal → ℕ → Type 0) → List Literal → List (Option ℕ) → Type 0
AtPlaces S ls ks = (i k : ℕ) (l : Literal) → slice_get ls i ≡ Some l → slice_get ks i ≡ Some (Some k) → S l k

module _ (S : Literal → ℕ → Type 0) where
  first_place : (m : Literal) (ls : List Literal) (j : ℕ) (ks : List (Option ℕ)) → S m j → AtPlaces S ls ks → AtPlaces S (m ∷ ls) (Some j ∷ ks)
  first_place m ls j ks here later zero k l at pos =
      let P : Literal × ℕ → Type 0 = λ z. S z.0 z.1 in
      subst P (λ i. (same_Some m l at i, same_Some j k (same_Some (Some j) (Some k) pos) i)) here
  first_place m ls j ks here later (suc i) k l at pos = later i k l at pos

  none_place : (m : Literal) (ls : List Literal) (ks : List (Option ℕ)) → AtPlaces S ls ks → AtPlaces S (m ∷ ls) (None ∷ ks)
  none_place m ls ks later zero k l at pos = cc pos
  none_place m ls ks later (suc i) k l at pos = later i k l at pos

  pub at_places : ((l : Literal) (k : ℕ) → S l k ⊎ (¬ S l k)) → (ls : List Literal) (ks : List (Option ℕ)) → AtPlaces S ls ks ⊎ (¬ AtPlaces S ls ks)
  at_places decided [] ks = inl (λ i k l at pos. cc at)
  at_places decided (m ∷ ls) [] = inl (λ i k l at pos. cc pos)
  at_places decided (m ∷ ls) (None ∷ ks) =
      elim (at_places decided ls ks) as (λ _. AtPlaces S (m ∷ ls) (None ∷ ks) ⊎ (¬ AtPlaces S (m ∷ ls) (None ∷ ks))) [
        | inl h ↦ inl (none_place m ls ks h)
        | inr never ↦ inr (λ h. never (λ i k l at pos. h (suc i) k l at pos))
      ]
  at_places decided (m ∷ ls) (Some j ∷ ks) =
      elim (decided m j) as (λ _. AtPlaces S (m ∷ ls) (Some j ∷ ks) ⊎ (¬ AtPlaces S (m ∷ ls) (Some j ∷ ks))) [
        | inl here ↦ elim (at_places decided ls ks) as (λ _. AtPlaces S (m ∷ ls) (Some j ∷ ks) ⊎ (¬ AtPlaces S (m ∷ ls) (Some j ∷ ks))) [
          | inl h ↦ inl (first_place m ls j ks here h)
          | inr never ↦ inr (λ h. never (λ i k l at pos. h (suc i) k l at pos))
        ]
        | inr never ↦ inr (λ h. never (h 0 j m refl refl))
      ]

opposite_decided : (context : Context) (ls : List Literal) (ks : List (Option ℕ)) → AreOpposite context ls ks ⊎ (¬ AreOpposite context ls ks)
opposite_decided context ls ks =
    elim (both_decided (length ks ≡ length ls) (AtPlaces (Seen context) ls ks) (same_number (length ks) (length ls)) (at_places (Seen context) (λ l k. seen_by context l k (slice_get context k) refl) ls ks)) as (λ _. AreOpposite context ls ks ⊎ (¬ AreOpposite context ls ks)) [
      | inl h ↦ inl (record { each_place = h.0; visible = h.1 })
      | inr never ↦ inr (λ h. never (h.each_place, h.visible))
    ]

pub context_unifier_decided : (context : Context) (ls : List Literal) (skip : Option ℕ) (tuple : List ℕ) → ((u : Family) × IsContextUnifier context ls skip tuple u) ⊎ (¬ ((u : Family) × IsContextUnifier context ls skip tuple u))
context_unifier_decided context ls skip tuple =
    elim (opposite_decided context ls (positions_of skip tuple)) as (λ _. ((u : Family) × IsContextUnifier context ls skip tuple u) ⊎ (¬ ((u : Family) × IsContextUnifier context ls skip tuple u))) [
      | inl o ↦ elim (unifier_decided context ls (positions_of skip tuple)) as (λ _. ((u : Family) × IsContextUnifier context ls skip tuple u) ⊎ (¬ ((u : Family) × IsContextUnifier context ls skip tuple u))) [
        | inl h ↦ inl (h.0, record { opposite = o; unifier = h.1 })
        | inr never ↦ inr (λ h. never (h.0, h.1.unifier))
      ]
      | inr never ↦ inr (λ h. never h.1.opposite)
    ]

-- ---- the positions are in the context
pub there : {A : Type 0} (xs : List A) (i : ℕ) → i < length xs → (x : A) × (slice_get xs i ≡ Some x)
there [] i h = absurd (omega (arith, h))
there (x ∷ xs) zero h = (x, refl)
there (x ∷ xs) (suc i) h = there xs i (omega (arith, h))

abbrev InRange : ℕ → List (Option ℕ) → Type 0
InRange n ks = (i k : ℕ) → slice_get ks i ≡ Some (Some k) → k < n

in_range : (context : Context) (ls : List Literal) (ks : List (Option ℕ)) → AreOpposite context ls ks → InRange (length context) ks
in_range context ls ks h i k pos =
    let lt : i < length ks = slice_get_within ks i (Some k) pos in
    let l = there ls i (omega (arith, lt, h.each_place)) in
    let e = h.visible i k l.0 l.1 pos in
    slice_get_within context k e.0 e.1.0

all_within : (n : ℕ) (tuple : List ℕ) → InRange n (positions_of None tuple) → Within n tuple
all_within n [] h = tt
all_within n (k ∷ tuple) h = (h 0 k refl, all_within n tuple (λ i. h (suc i)))

within_skipped : (n skip : ℕ) (tuple : List ℕ) → InRange n (positions_of (Some skip) tuple) → Within n tuple
within_skipped n skip [] h = tt
within_skipped n zero (k ∷ tuple) h = all_within n (k ∷ tuple) (λ i. h (suc i))
within_skipped n (suc skip) (k ∷ tuple) h = (h 0 k refl, within_skipped n skip tuple (λ i. h (suc i)))

within_by : (n : ℕ) (skip : Option ℕ) (tuple : List ℕ) → InRange n (positions_of skip tuple) → Within n tuple
within_by n None tuple h = all_within n tuple h
within_by n (Some skip) tuple h = within_skipped n skip tuple h

pub tuple_within : (context : Context) (ls : List Literal) (skip : Option ℕ) (tuple : List ℕ) → AreOpposite context ls (positions_of skip tuple) → Within (length context) tuple
tuple_within context ls skip tuple h = within_by (length context) skip tuple (in_range context ls (positions_of skip tuple) h)

all_long : (tuple : List ℕ) → length tuple ≤ length (positions_of None tuple)
all_long [] = omega arith
all_long (k ∷ tuple) = let later = all_long tuple in omega (arith, later)

skipped_long : (skip : ℕ) (tuple : List ℕ) → length tuple ≤ length (positions_of (Some skip) tuple)
skipped_long skip [] = omega arith
skipped_long zero (k ∷ tuple) = let later = all_long tuple in omega (arith, later)
skipped_long (suc skip) (k ∷ tuple) = let later = skipped_long skip tuple in omega (arith, later)

pub tuple_long : (skip : Option ℕ) (tuple : List ℕ) → length tuple ≤ length (positions_of skip tuple)
tuple_long None tuple = all_long tuple
tuple_long (Some skip) tuple = skipped_long skip tuple
