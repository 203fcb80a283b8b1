-- The kind of an asserted entry.
use Rattle.std.proofs.Common.{◌≡◌, ℕ, zero, suc, Bool, true, false, ◌||◌, cond, ◌⊎◌, inl, inr, List, [], ◌∷◌, slice_get, Option, Some, refl, subst}
use Rattle.std.proofs.lemmas.Option.{same_Some}
use Rattle.std.specs.List.{list_all}
use Rattle.me_terms.specs.Values.{EntryValue}
use Rattle.me_terms.specs.Context.{Context, StandsAt}
use Rattle.me_terms.specs.Positions.{entry_at}
use Rattle.me_terms.specs.Assert.{is_universal, uses_universal}
use Rattle.me_terms.specs.TermEqualityLaws.{both_parts}
use Rattle.me_terms.specs.declared.entry.Kind.{Kind}
use Rattle.me_terms.specs.declared.entry.Kind.TheVariants.{Universal, Parametric}

pub universal_at : (context : Context) (ks : List (Option ℕ)) (i k : ℕ) (e : EntryValue) → list_all (λ o. uses_universal (entry_at context o)) ks ≡ true → slice_get ks i ≡ Some (Some k) → StandsAt context k e → is_universal e.kind ≡ true
universal_at context [] i k e h at stands = cc
universal_at context (o ∷ ks) zero k e h at stands =
    let parts = both_parts (uses_universal (entry_at context o)) (list_all (λ p. uses_universal (entry_at context p)) ks) h in
    let P : Option ℕ → Type 0 = λ x. uses_universal (entry_at context x) ≡ true in
    let Q : Option EntryValue → Type 0 = λ x. uses_universal x ≡ true in
    subst Q stands (subst P (same_Some o (Some k) at) parts.0)
universal_at context (o ∷ ks) (suc i) k e h at stands =
    let parts = both_parts (uses_universal (entry_at context o)) (list_all (λ p. uses_universal (entry_at context p)) ks) h in
    universal_at context ks i k e parts.1 at stands

pub not_both : (kind : Kind) → is_universal kind ≡ true → kind ≡ Parametric → ⊥
not_both Universal h g = cc g
not_both Parametric h g = cc h

pub kind_cases : (universal ground : Bool) (kind : Kind) → kind ≡ cond (universal || ground) Universal Parametric → (universal ≡ true) ⊎ ((ground ≡ true) ⊎ (kind ≡ Parametric))
kind_cases true ground kind h = inl refl
kind_cases false true kind h = inr (inl refl)
kind_cases false false kind h = inr (inr h)
