-- Where no place is in the remainder.
use Rattle.std.proofs.Common.{◌≡◌, ℕ, zero, suc, ◌+◌, Bool, true, false, cond, List, [], ◌∷◌, slice_get, Option, Some, refl, sym, subst, ◌∙◌, arith}
use Rattle.std.proofs.lemmas.Option.{same_Some}
use Rattle.me_terms.specs.Substitutions.{Substitution, Family}
use Rattle.me_terms.specs.Values.{EntryValue}
use Rattle.me_terms.specs.Context.{Context, StandsAt}
use Rattle.me_terms.specs.Positions.{positions_of, entry_at}
use Rattle.me_terms.specs.Unifier.{IsUnifier, IsContextUnifier}
use Rattle.me_terms.specs.Remainder.{is_remaining, remains_at, remainder_from, remainder}
use Rattle.me_terms.specs.declared.atom.Literal.{Literal}
use Rattle.me_laws.proofs.Determined.{renamed, remainder_same}

not_first : (context : Context) (o : Option ℕ) (k : ℕ) (e : EntryValue) (s : Substitution) → o ≡ Some k → StandsAt context k e → remains_at (entry_at context o) s ≡ false → is_remaining e.kind e.atom s ≡ false
not_first context o k e s h stands free =
    let P : Option ℕ → Type 0 = λ x. remains_at (entry_at context x) s ≡ false in
    let Q : Option EntryValue → Type 0 = λ x. remains_at x s ≡ false in
    subst Q stands (subst P h free)

tested : (i : ℕ) (later : List ℕ) (test : Bool) → cond test (i ∷ later) later ≡ [] → (test ≡ false) × (later ≡ [])
tested i later true h = cc
tested i later false h = (refl, h)

pub none_left : (context : Context) (ks : List (Option ℕ)) (u : Family) (i : ℕ) → remainder_from i context ks u ≡ [] → (j k : ℕ) (e : EntryValue) → slice_get ks j ≡ Some (Some k) → StandsAt context k e → (n : ℕ) → n ≡ i + j → is_remaining e.kind e.atom (u (n + 1)) ≡ false
none_left context [] u i h j k e at stands n m = cc
none_left context (o ∷ ks) u i h zero k e at stands n m =
    let parts = tested i (remainder_from (i + 1) context ks u) (remains_at (entry_at context o) (u (i + 1))) h in
    let same : n ≡ i = omega arith in
    let P : ℕ → Type 0 = λ x. is_remaining e.kind e.atom (u (x + 1)) ≡ false in
    subst P (sym same) (not_first context o k e (u (i + 1)) (same_Some o (Some k) at) stands parts.0)
none_left context (o ∷ ks) u i h (suc j) k e at stands n m =
    let parts = tested i (remainder_from (i + 1) context ks u) (remains_at (entry_at context o) (u (i + 1))) h in
    none_left context ks u (i + 1) parts.1 j k e at stands n (omega arith)

-- any most general unifier of the same equations has as little remainder
pub still_none : (context : Context) (literals : List Literal) (skip : Option ℕ) (tuple : List ℕ) (u v : Family) → IsContextUnifier context literals skip tuple u → remainder context (positions_of skip tuple) u ≡ [] → IsUnifier context literals (positions_of skip tuple) v → remainder context (positions_of skip tuple) v ≡ []
still_none context literals skip tuple u v h none g =
    sym (remainder_same context (positions_of skip tuple) u v (renamed context literals (positions_of skip tuple) u v h.unifier g)) ∙ none
