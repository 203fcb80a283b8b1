-- Keys are ordered in full, and of finitely many candidates one has the least key.
use Rattle.std.proofs.Common.{◌≡◌, ℕ, zero, suc, ◌<◌, ◌⊎◌, inl, inr, List, [], ◌∷◌, refl, sym, subst, arith}
use Rattle.me_terms.specs.Order.{Precedes}

pub precedes_itself : (key : List ℕ) → Precedes key key
precedes_itself [] = tt
precedes_itself (x ∷ key) = inr (refl, precedes_itself key)

pub precedes_transitive : (a b c : List ℕ) → Precedes a b → Precedes b c → Precedes a c
precedes_transitive [] b c f g = tt
precedes_transitive (x ∷ a) [] c f g = absurd f
precedes_transitive (x ∷ a) (y ∷ b) [] f g = absurd g
precedes_transitive (x ∷ a) (y ∷ b) (z ∷ c) (inl f) (inl g) = inl (omega (arith, f, g))
precedes_transitive (x ∷ a) (y ∷ b) (z ∷ c) (inl f) (inr g) = inl (omega (arith, f, g.0))
precedes_transitive (x ∷ a) (y ∷ b) (z ∷ c) (inr f) (inl g) = inl (omega (arith, f.0, g))
precedes_transitive (x ∷ a) (y ∷ b) (z ∷ c) (inr f) (inr g) = inr (omega (arith, f.0, g.0), precedes_transitive a b c f.1 g.1)

pub compared : (x y : ℕ) → (x < y) ⊎ ((x ≡ y) ⊎ (y < x))
compared zero zero = inr (inl refl)
compared zero (suc y) = inl (omega arith)
compared (suc x) zero = inr (inr (omega arith))
compared (suc x) (suc y) =
    elim (compared x y) as (λ _. (suc x < suc y) ⊎ ((suc x ≡ suc y) ⊎ (suc y < suc x))) [
      | inl h ↦ inl (omega (arith, h))
      | inr h ↦ elim h as (λ _. (suc x < suc y) ⊎ ((suc x ≡ suc y) ⊎ (suc y < suc x))) [ inl e ↦ inr (inl (omega (arith, e))) | inr g ↦ inr (inr (omega (arith, g))) ]
    ]

total_by : (x y : ℕ) (a b : List ℕ) → (x < y) ⊎ ((x ≡ y) ⊎ (y < x)) → Precedes a b ⊎ Precedes b a → Precedes (x ∷ a) (y ∷ b) ⊎ Precedes (y ∷ b) (x ∷ a)
total_by x y a b (inl h) later = inl (inl h)
total_by x y a b (inr (inr h)) later = inr (inl h)
total_by x y a b (inr (inl e)) (inl f) = inl (inr (e, f))
total_by x y a b (inr (inl e)) (inr f) = inr (inr (omega (arith, e), f))

pub precedes_total : (a b : List ℕ) → Precedes a b ⊎ Precedes b a
precedes_total [] b = inl tt
precedes_total (x ∷ a) [] = inr tt
precedes_total (x ∷ a) (y ∷ b) = total_by x y a b (compared x y) (precedes_total a b)

abbrev pub Among : {A : Type 0} → A → List A → Type 0
Among a [] = ⊥
Among a (x ∷ xs) = (x ≡ a) ⊎ Among a xs

-- a candidate of a list whose key comes first
pub record BestIn (A : Type 0) (R : A → Type 0) (key : (a : A) → R a → List ℕ) (xs : List A) : Type 0 where
  pub at : A
  pub holds : R at
  pub least : (b : A) → Among b xs → (r : R b) → Precedes (key at holds) (key b r)

module _ (A : Type 0) (R : A → Type 0) (key : (a : A) → R a → List ℕ) (same : (a : A) (r s : R a) → Precedes (key a r) (key a s)) where
  abbrev Found : List A → Type 0
  Found xs = BestIn A R key xs ⊎ ((a : A) → Among a xs → ¬ R a)

  skipped : (x : A) (xs : List A) → ¬ R x → Found xs → Found (x ∷ xs)
  skipped x xs never (inl m) =
      inl (record { at = m.at; holds = m.holds; least = λ b h r. elim h as (λ _. Precedes (key m.at m.holds) (key b r)) [ inl e ↦ absurd (never (subst R (sym e) r)) | inr g ↦ m.least b g r ] })
  skipped x xs never (inr none) =
      inr (λ a h r. elim h as (λ _. ⊥) [ inl e ↦ never (subst R (sym e) r) | inr g ↦ none a g r ])

  at_head : (k : List ℕ) (x b : A) → ((r : R x) → Precedes k (key x r)) → x ≡ b → (r : R b) → Precedes k (key b r)
  at_head k x b h e r = let P : A → Type 0 = λ z. (r : R z) → Precedes k (key z r) in subst P e h r

  against : (x : A) (xs : List A) (r : R x) (m : BestIn A R key xs) → Precedes (key x r) (key m.at m.holds) ⊎ Precedes (key m.at m.holds) (key x r) → BestIn A R key (x ∷ xs)
  against x xs r m (inl f) = record {
    at = x;
    holds = r;
    least = λ b h s. elim h as (λ _. Precedes (key x r) (key b s)) [
      | inl e ↦ at_head (key x r) x b (same x r) e s
      | inr g ↦ precedes_transitive (key x r) (key m.at m.holds) (key b s) f (m.least b g s)
    ];
  }
  against x xs r m (inr f) = record {
    at = m.at;
    holds = m.holds;
    least = λ b h s. elim h as (λ _. Precedes (key m.at m.holds) (key b s)) [
      | inl e ↦ at_head (key m.at m.holds) x b (λ t. precedes_transitive (key m.at m.holds) (key x r) (key x t) f (same x r t)) e s
      | inr g ↦ m.least b g s
    ];
  }

  taken : (x : A) (xs : List A) → R x → Found xs → Found (x ∷ xs)
  taken x xs r (inl m) = inl (against x xs r m (precedes_total (key x r) (key m.at m.holds)))
  taken x xs r (inr none) =
      inl (record { at = x; holds = r; least = λ b h s. elim h as (λ _. Precedes (key x r) (key b s)) [ inl e ↦ at_head (key x r) x b (same x r) e s | inr g ↦ absurd (none b g s) ] })

  added : (x : A) (xs : List A) → R x ⊎ (¬ R x) → Found xs → Found (x ∷ xs)
  added x xs (inl r) later = taken x xs r later
  added x xs (inr never) later = skipped x xs never later

  pub best_in : ((a : A) → R a ⊎ (¬ R a)) → (xs : List A) → BestIn A R key xs ⊎ ((a : A) → Among a xs → ¬ R a)
  best_in decided [] = inr (λ a h r. h)
  best_in decided (x ∷ xs) = added x xs (decided x) (best_in decided xs)

-- a candidate whose key comes first
pub record Best (A : Type 0) (R : A → Type 0) (key : (a : A) → R a → List ℕ) : Type 0 where
  pub at : A
  pub holds : R at
  pub least : (b : A) (r : R b) → Precedes (key at holds) (key b r)

-- where all candidates are in a list
pub best : (A : Type 0) (R : A → Type 0) (key : (a : A) → R a → List ℕ) → ((a : A) (r s : R a) → Precedes (key a r) (key a s)) → ((a : A) → R a ⊎ (¬ R a)) → (xs : List A) → ((a : A) → R a → Among a xs) → Best A R key ⊎ ((a : A) → ¬ R a)
best A R key same decided xs all =
    elim (best_in A R key same decided xs) as (λ _. Best A R key ⊎ ((a : A) → ¬ R a)) [
      | inl m ↦ inl (record { at = m.at; holds = m.holds; least = λ b r. m.least b (all b r) r })
      | inr none ↦ inr (λ a r. none a (all a r) r)
    ]
