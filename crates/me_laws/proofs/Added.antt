-- What stands where in a context with an entry more.
use Rattle.std.proofs.Common.{◌≡◌, ℕ, zero, suc, ◌<◌, ◌⊎◌, inl, inr, [], ◌∷◌, length, slice_get, refl, ap, arith}
use Rattle.std.proofs.lemmas.Option.{same_Some}
use Rattle.me_terms.specs.Values.{EntryValue}
use Rattle.me_terms.specs.Context.{Context, StandsAt, add}

-- an old entry keeps its position
pub add_old : (context : Context) (e : EntryValue) (k : ℕ) (f : EntryValue) → StandsAt context k f → StandsAt (add context e) k f
add_old [] e k f h = cc
add_old (x ∷ xs) e zero f h = h
add_old (x ∷ xs) e (suc k) f h = add_old xs e k f h

-- below the old length nothing changes
pub get_add : (context : Context) (e : EntryValue) (k : ℕ) → k < length context → slice_get context k ≡ slice_get (add context e) k
get_add [] e k lt = absurd (omega arith)
get_add (x ∷ xs) e zero lt = refl
get_add (x ∷ xs) e (suc k) lt = get_add xs e k (omega arith)

-- what stands in the new context is old, or is the new entry at its end
pub add_cases : (context : Context) (e : EntryValue) (k : ℕ) (f : EntryValue) → StandsAt (add context e) k f → StandsAt context k f ⊎ ((k ≡ length context) × (e ≡ f))
add_cases [] e zero f h = inr (refl, same_Some e f h)
add_cases [] e (suc k) f h = cc
add_cases (x ∷ xs) e zero f h = inl h
add_cases (x ∷ xs) e (suc k) f h =
    elim (add_cases xs e k f h) as (λ _. StandsAt (x ∷ xs) (suc k) f ⊎ ((suc k ≡ suc (length xs)) × (e ≡ f))) [ inl old ↦ inl old | inr new ↦ inr (ap suc new.0, new.1) ]

-- the same without its position
pub add_either : (context : Context) (e : EntryValue) (k : ℕ) (f : EntryValue) → StandsAt (add context e) k f → StandsAt context k f ⊎ (e ≡ f)
add_either context e k f h =
    elim (add_cases context e k f h) as (λ _. StandsAt context k f ⊎ (e ≡ f)) [ inl old ↦ inl old | inr new ↦ inr new.1 ]
