-- Keys and ranks are ordered in full, and it is decided whether two are the same.
use Rattle.std.proofs.Common.{◌≡◌, ℕ, ◌<◌, ◌⊎◌, inl, inr, List, [], ◌∷◌, ◌++◌, length, refl, sym, subst, arith}
use Rattle.me_terms.specs.Order.{Precedes}
use Rattle.me_laws.proofs.Determined.{precedes_antisymmetric}
use Rattle.me_laws_existence.proofs.Best.{compared, precedes_itself, precedes_transitive, precedes_total}
use Rattle.next_rule.specs.Best.{StrictlyPrecedes}

-- ---- equality is decided
head_apart : (x y : ℕ) (xs ys : List ℕ) → (x < y) ⊎ (y < x) → x ∷ xs ≡ y ∷ ys → ⊥
head_apart x y xs ys (inl h) e = let same : x ≡ y = cc e in absurd (omega (arith, h, same))
head_apart x y xs ys (inr h) e = let same : x ≡ y = cc e in absurd (omega (arith, h, same))

same_by : (x y : ℕ) (xs ys : List ℕ) → (x < y) ⊎ ((x ≡ y) ⊎ (y < x)) → (xs ≡ ys) ⊎ (¬ (xs ≡ ys)) → (x ∷ xs ≡ y ∷ ys) ⊎ (¬ (x ∷ xs ≡ y ∷ ys))
same_by x y xs ys (inl h) later = inr (λ e. head_apart x y xs ys (inl h) e)
same_by x y xs ys (inr (inr h)) later = inr (λ e. head_apart x y xs ys (inr h) e)
same_by x y xs ys (inr (inl e)) (inl f) = inl (cc (e, f))
same_by x y xs ys (inr (inl e)) (inr never) = inr (λ f. never (cc f))

pub same_key : (a b : List ℕ) → (a ≡ b) ⊎ (¬ (a ≡ b))
same_key [] [] = inl refl
same_key [] (y ∷ b) = inr (λ e. cc e)
same_key (x ∷ a) [] = inr (λ e. cc e)
same_key (x ∷ a) (y ∷ b) = same_by x y a b (compared x y) (same_key a b)

-- ---- strict order
pub before_transitive : (a b c : List ℕ) → StrictlyPrecedes a b → Precedes b c → StrictlyPrecedes a c
before_transitive a b c f g =
    (precedes_transitive a b c f.0 g, λ e. let P : List ℕ → Type 0 = λ z. Precedes b z in f.1 (precedes_antisymmetric a b f.0 (subst P (sym e) g)))

-- what does not come before another key stands at it or after it
pub not_before : (a b : List ℕ) → ¬ StrictlyPrecedes b a → Precedes a b
not_before a b h =
    elim (precedes_total a b) as (λ _. Precedes a b) [
      | inl f ↦ f
      | inr g ↦ elim (same_key b a) as (λ _. Precedes a b) [
        | inl e ↦ let P : List ℕ → Type 0 = λ z. Precedes a z in subst P (sym e) (precedes_itself a)
        | inr apart ↦ absurd (h (g, apart))
      ]
    ]

-- ---- ranks of two numbers, and what follows them in a key
abbrev pub Ranked : ℕ → ℕ → List ℕ → List ℕ
Ranked a b rest = a ∷ b ∷ rest

pub rank_decides : (a b x y : ℕ) (v w : List ℕ) → StrictlyPrecedes (a ∷ b ∷ []) (x ∷ y ∷ []) → Precedes (a ∷ b ∷ v) (x ∷ y ∷ w)
rank_decides a b x y v w (inl h, apart) = inl h
rank_decides a b x y v w (inr (e, inl h), apart) = inr (e, inl h)
rank_decides a b x y v w (inr (e, inr (f, g)), apart) = absurd (apart (cc (e, f)))

rest_decides_by : (a b x y : ℕ) (v w : List ℕ) → Precedes (a ∷ b ∷ []) (x ∷ y ∷ []) → Precedes v w → Precedes (a ∷ b ∷ v) (x ∷ y ∷ w)
rest_decides_by a b x y v w (inl h) later = inl h
rest_decides_by a b x y v w (inr (e, inl h)) later = inr (e, inl h)
rest_decides_by a b x y v w (inr (e, inr (f, g))) later = inr (e, inr (f, later))

pub rest_decides : (a b x y : ℕ) (v w : List ℕ) → ¬ StrictlyPrecedes (x ∷ y ∷ []) (a ∷ b ∷ []) → Precedes v w → Precedes (a ∷ b ∷ v) (x ∷ y ∷ w)
rest_decides a b x y v w h later = rest_decides_by a b x y v w (not_before (a ∷ b ∷ []) (x ∷ y ∷ []) h) later

-- ---- what is written behind keys of one length
pub followed : (a b v w : List ℕ) → length a ≡ length b → Precedes a b → ¬ (a ≡ b) → Precedes (a ++ v) (b ++ w)
followed [] [] v w l f apart = absurd (apart refl)
followed [] (y ∷ b) v w l f apart = absurd (omega (arith, l))
followed (x ∷ a) [] v w l f apart = absurd f
followed (x ∷ a) (y ∷ b) v w l (inl f) apart = inl f
followed (x ∷ a) (y ∷ b) v w l (inr f) apart = inr (f.0, followed a b v w (omega (arith, l)) f.1 (λ e. let first = f.0 in apart (cc (first, e))))

-- ---- ranks of two numbers, number by number
pub before_to : (a b x y : ℕ) → (a < x) ⊎ ((a ≡ x) × (b < y)) → StrictlyPrecedes (a ∷ b ∷ []) (x ∷ y ∷ [])
before_to a b x y (inl h) = (inl h, λ same. let k : a ≡ x = cc same in absurd (omega (arith, h, k)))
before_to a b x y (inr h) = (inr (h.0, inl h.1), λ same. let k : b ≡ y = cc same in let lt = h.1 in absurd (omega (arith, lt, k)))

before_from_by : (a b x y : ℕ) → Precedes (a ∷ b ∷ []) (x ∷ y ∷ []) → ¬ (a ∷ b ∷ [] ≡ x ∷ y ∷ []) → (a < x) ⊎ ((a ≡ x) × (b < y))
before_from_by a b x y (inl h) apart = inl h
before_from_by a b x y (inr (k, inl h)) apart = inr (k, h)
before_from_by a b x y (inr (k, inr (w, h))) apart = absurd (apart (cc (k, w)))

pub before_from : (a b x y : ℕ) → StrictlyPrecedes (a ∷ b ∷ []) (x ∷ y ∷ []) → (a < x) ⊎ ((a ≡ x) × (b < y))
before_from a b x y h = before_from_by a b x y h.0 h.1

-- a key's rank stands where the key does
pub rank_of_key : (a b x y : ℕ) (v w : List ℕ) → Precedes (a ∷ b ∷ v) (x ∷ y ∷ w) → Precedes (a ∷ b ∷ []) (x ∷ y ∷ [])
rank_of_key a b x y v w (inl h) = inl h
rank_of_key a b x y v w (inr (e, inl h)) = inr (e, inl h)
rank_of_key a b x y v w (inr (e, inr (f, g))) = inr (e, inr (f, tt))

pub transitive_before : (a b c : List ℕ) → Precedes a b → StrictlyPrecedes b c → StrictlyPrecedes a c
transitive_before a b c f g =
    (precedes_transitive a b c f g.0, λ e. let P : List ℕ → Type 0 = λ z. Precedes z b in g.1 (precedes_antisymmetric b c g.0 (subst P e f)))
