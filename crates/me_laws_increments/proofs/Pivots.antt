-- Each tuple but the empty one has one pivot, and new candidates have a later one.
use Rattle.std.proofs.Common.{◌≡◌, ℕ, zero, suc, ◌+◌, ◌<◌, ◌≤◌, ◌⊎◌, inl, inr, List, [], ◌∷◌, ◌++◌, length, length-append, get_or, slice_get, Some, None, refl, sym, arith}
use Rattle.std.specs.List.{Contains}
use Rattle.std.proofs.lemmas.Bool.{cases_lt}
use Rattle.std.proofs.lemmas.Option.{same_Some, slice_get_read}
use Rattle.me_terms.specs.Context.{Context, add}
use Rattle.me_laws_increments.specs.Tuples.{IsWithin}
use Rattle.me_laws_increments.specs.Pivots.{IsPivot, HasLaterPivot, PivotExists, PivotIsOnly, WithinByPivot, NewestIsPivot, ClosesByPivot, AssertsByPivot, ProductiveUnifiersByPivot, SplitsByPivot}
use Rattle.me_laws_increments.proofs.Tuples.{visible_within}
use Rattle.me_laws_increments.proofs.Candidates.{old_closes, old_asserts, old_productive_unifiers, old_splits}

-- ---- there is one
one_before : (k : ℕ) (ks : List ℕ) (q j : ℕ) → IsPivot ks q j → k < q → (n m : ℕ) → n < suc j → slice_get (k ∷ ks) n ≡ Some m → m < q
one_before k ks q j h lt zero m below e = let same = same_Some k m e in omega (arith, same, lt)
one_before k ks q j h lt (suc n) m below e = h.before n m (omega (arith, below)) e

one_greatest : (k : ℕ) (ks : List ℕ) (q j : ℕ) → IsPivot ks q j → k ≤ q → (n m : ℕ) → slice_get (k ∷ ks) n ≡ Some m → m ≤ q
one_greatest k ks q j h le zero m e = let same = same_Some k m e in omega (arith, same, le)
one_greatest k ks q j h le (suc n) m e = h.greatest n m e

first_greatest : (k : ℕ) (ks : List ℕ) (q j : ℕ) → IsPivot ks q j → q ≤ k → (n m : ℕ) → slice_get (k ∷ ks) n ≡ Some m → m ≤ k
first_greatest k ks q j h le zero m e = let same = same_Some k m e in omega (arith, same)
first_greatest k ks q j h le (suc n) m e = let below = h.greatest n m e in omega (arith, below, le)

only_one : (k n m : ℕ) → slice_get (k ∷ []) n ≡ Some m → m ≤ k
only_one k zero m e = let same = same_Some k m e in omega (arith, same)
only_one k (suc n) m e = cc e

pub exists : PivotExists
exists k [] =
    (k, 0, record { at = refl; before = λ j m lt e. absurd (omega (arith, lt)); greatest = λ j m e. only_one k j m e })
exists k (x ∷ xs) =
    let rest = exists x xs in
    elim (cases_lt k rest.0) as (λ _. (p i : ℕ) × IsPivot (k ∷ x ∷ xs) p i) [
      | inl lt ↦ (rest.0, suc rest.1, record { at = rest.2.at; before = one_before k (x ∷ xs) rest.0 rest.1 rest.2 lt; greatest = one_greatest k (x ∷ xs) rest.0 rest.1 rest.2 (omega (arith, lt)) })
      | inr le ↦ (k, 0, record { at = refl; before = λ j m below e. absurd (omega (arith, below)); greatest = first_greatest k (x ∷ xs) rest.0 rest.1 rest.2 le })
    ]

-- ---- and one alone
not_before : (tuple : List ℕ) (p q i j : ℕ) → IsPivot tuple p i → IsPivot tuple q j → i < j → ⊥
not_before tuple p q i j f g lt =
    let below = g.before i p lt f.at in
    let above = f.greatest j q g.at in omega (arith, below, above)

pub only : PivotIsOnly
only tuple p q i j f g =
    let over = f.greatest j q g.at in
    let under = g.greatest i p f.at in (
      omega (arith, over, under),
      elim (cases_lt i j) as (λ _. i ≡ j) [
        | inl lt ↦ absurd (not_before tuple p q i j f g lt)
        | inr le ↦ elim (cases_lt j i) as (λ _. i ≡ j) [ inl lt ↦ absurd (not_before tuple q p j i g f lt) | inr ge ↦ omega (arith, le, ge) ]
      ],
    )

-- ---- where it stands
in_tuple : (tuple : List ℕ) (i k : ℕ) → slice_get tuple i ≡ Some k → Contains tuple k
in_tuple [] i k h = cc h
in_tuple (x ∷ xs) zero k h = (0, omega arith, same_Some x k h)
in_tuple (x ∷ xs) (suc i) k h = let rest = in_tuple xs i k h in (suc rest.0, omega (arith, rest.1), rest.2)

read : (tuple : List ℕ) (i k : ℕ) → i < length tuple → get_or tuple i k ≡ k → slice_get tuple i ≡ Some k
read tuple i k lt e = slice_get_read tuple (length tuple) i k refl lt (sym e)

within_there : (context : Context) (tuple : List ℕ) (p i : ℕ) → IsPivot tuple p i → IsWithin context tuple → p < length context
within_there context tuple p i h within = within p (in_tuple tuple i p h.at)

within_back : (context : Context) (tuple : List ℕ) (p i : ℕ) → IsPivot tuple p i → p < length context → IsWithin context tuple
within_back context tuple p i h lt = λ k at. let le = h.greatest at.0 k (read tuple at.0 k at.1 at.2) in omega (arith, le, lt)

pub within_by_pivot : WithinByPivot
within_by_pivot context tuple p i h = (within_there context tuple p i h, within_back context tuple p i h)

pub newest_is_pivot : NewestIsPivot
newest_is_pivot context new literals skip tuple p i h used pivot =
    let above = pivot.greatest used.0 (length context) (read tuple used.0 (length context) used.1 used.2) in
    let below = within_there (add context new) tuple p i pivot (visible_within (add context new) literals skip tuple h) in
    let longer : length (add context new) ≡ length context + 1 = length-append context (new ∷ []) in
    omega (arith, above, below, longer)

-- ---- candidates
nothing_in : (context : Context) → IsWithin context []
nothing_in context = λ k h. absurd (omega (arith, h.1))

-- a tuple over the longer context's positions is over the shorter one's, or its pivot is a later one
within_or_later : (context longer : Context) (tuple : List ℕ) → IsWithin longer tuple → IsWithin context tuple ⊎ HasLaterPivot context longer tuple
within_or_later context longer [] h = inl (nothing_in context)
within_or_later context longer (k ∷ ks) h =
    let pivot = exists k ks in
    elim (cases_lt pivot.0 (length context)) as (λ _. IsWithin context (k ∷ ks) ⊎ HasLaterPivot context longer (k ∷ ks)) [
      | inl lt ↦ inl (within_back context (k ∷ ks) pivot.0 pivot.1 pivot.2 lt)
      | inr le ↦ inr (pivot.0, pivot.1, pivot.2, le, within_there longer (k ∷ ks) pivot.0 pivot.1 pivot.2 h)
    ]

either : (A B C : Type 0) → (A → B) → A ⊎ C → B ⊎ C
either A B C f (inl a) = inl (f a)
either A B C f (inr c) = inr c

pub closes_by_pivot : ClosesByPivot
closes_by_pivot problem context more c tuple h =
    either _ _ _ (λ within. old_closes problem context more c tuple within h) (within_or_later context (context ++ more) tuple (visible_within (context ++ more) h.clause.literals None tuple h.unifier.opposite))

pub asserts_by_pivot : AssertsByPivot
asserts_by_pivot problem bounds context more c place tuple e h =
    either _ _ _ (λ within. old_asserts problem bounds context more c place tuple e within h) (within_or_later context (context ++ more) tuple (visible_within (context ++ more) h.clause.literals (Some place) tuple h.unifier.opposite))

pub productive_unifiers_by_pivot : ProductiveUnifiersByPivot
productive_unifiers_by_pivot problem context more c tuple clause family h =
    either _ _ _ (λ within. old_productive_unifiers problem context more c tuple clause family within h) (within_or_later context (context ++ more) tuple (visible_within (context ++ more) clause.literals None tuple h.unifier.opposite))

pub splits_by_pivot : SplitsByPivot
splits_by_pivot problem bounds context more c place tuple size l h =
    either _ _ _ (λ within. old_splits problem bounds context more c place tuple size l within h) (within_or_later context (context ++ more) tuple (visible_within (context ++ more) h.clause.literals None tuple h.productive.unifier.opposite))
