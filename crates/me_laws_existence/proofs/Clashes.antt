-- Whether literals have a common instance, and whether one contradicts a context, is decided.
use Rattle.std.proofs.Common.{◌≡◌, ℕ, zero, suc, ◌≤◌, not, ◌⊎◌, inl, inr, sym, subst, arith}
use Rattle.me_terms.specs.Terms.{AtomValue}
use Rattle.me_terms.specs.Substitutions.{Substitution, Family, Generalizes, IsVariant}
use Rattle.me_terms.specs.Measures.{literal_depth, literal_weight}
use Rattle.me_terms.specs.Values.{EntryValue}
use Rattle.me_terms.specs.Context.{Context, IsHidden}
use Rattle.me_terms.specs.Contradictory.{Unifiable, Clash, IsContradictory}
use Rattle.me_terms.specs.Unifier.{IsSolvedBy}
use Rattle.me_terms.specs.Fits.{Fits}
use Rattle.me_terms.specs.Assert.{IsSubsumed, HasVariant, MayAssert}
use Rattle.me_terms.specs.declared.bounds.Bounds.{Bounds}
use Rattle.me_terms.specs.declared.entry.Kind.{Kind}
use Rattle.me_terms.specs.declared.entry.Kind.TheVariants.{Universal, Parametric}
use Rattle.me_terms.specs.declared.atom.Literal.{Literal}
use Rattle.me_terms.specs.declared.atom.Pattern.{Pattern}
use Rattle.me_terms.specs.declared.atom.Pattern.TheVariants.{Any, Of}
use Rattle.me_laws.proofs.Generality.{generalizes_decided}
use Rattle.me_laws.proofs.Decisions.{both_decided, not_decided, sign_decided, kind_decided, any_entry, hidden_decided}
use Rattle.me_laws.proofs.UnifiersExist.{equation_of, flat, spread, spread_flat, meets, holds}
use Rattle.me_laws_existence.proofs.Solvable.{Decided, solvable}
use Rattle.me_laws_existence.proofs.Best.{compared}

-- the family of two substitutions
two : Substitution → Substitution → Family
two s t zero = s
two s t (suc n) = t

by_equation : (a b : AtomValue) → Decided (equation_of 1 (Of a) b) → Unifiable (Of a) (Of b) ⊎ (¬ Unifiable (Of a) (Of b))
unfolding two
by_equation a b (inl m) = inl (spread m.substitution 1, spread m.substitution 0, meets m.substitution 1 (Of a) b m.holds)
by_equation a b (inr never) =
    inr (λ h.
    let v : Family = two h.1 h.0 in
    let P : Family → Type 0 = λ z. IsSolvedBy (z 1) (Of a) (z 0) b in
    never (flat v) (holds (flat v) 1 (Of a) b (subst P (sym (spread_flat v)) h.2)))

unifiable_decided : (p q : Pattern) → Unifiable p q ⊎ (¬ Unifiable p q)
unifiable_decided Any q = inl tt
unifiable_decided (Of a) Any = inl tt
unifiable_decided (Of a) (Of b) = by_equation a b (solvable (equation_of 1 (Of a) b))

variant_decided : (p q : Pattern) → IsVariant p q ⊎ (¬ IsVariant p q)
variant_decided p q = both_decided _ _ (generalizes_decided p q) (generalizes_decided q p)

clash_decided : (j : Kind) (p : Pattern) (k : Kind) (q : Pattern) → Clash j p k q ⊎ (¬ Clash j p k q)
clash_decided Universal p Universal q = unifiable_decided p q
clash_decided Universal p Parametric q = generalizes_decided p q
clash_decided Parametric p Universal q = generalizes_decided q p
clash_decided Parametric p Parametric q = variant_decided p q

abbrev Opposing : Context → Literal → Kind → ℕ → EntryValue → Type 0
Opposing context l kind k e = (¬ IsHidden context k e) × ((e.positive ≡ not l.positive) × Clash e.kind e.atom kind (Of l.atom))

contradictory_decided : (context : Context) (l : Literal) (kind : Kind) → IsContradictory context l kind ⊎ (¬ IsContradictory context l kind)
contradictory_decided context l kind =
    elim (any_entry (Opposing context l kind) (λ k e. both_decided _ _ (not_decided _ (hidden_decided context k e)) (both_decided _ _ (sign_decided e.positive (not l.positive)) (clash_decided e.kind e.atom kind (Of l.atom)))) context) as (λ _. IsContradictory context l kind ⊎ (¬ IsContradictory context l kind)) [
      | inl h ↦ inl (h.0, h.1, (h.2, h.3.0), h.3.1.0, h.3.1.1)
      | inr none ↦ inr (λ h. none h.0 h.1 h.2.0 (h.2.1, (h.3, h.4)))
    ]

abbrev Subsuming : Context → Literal → ℕ → EntryValue → Type 0
Subsuming context l k e = (¬ IsHidden context k e) × ((e.kind ≡ Universal) × ((e.positive ≡ l.positive) × Generalizes e.atom (Of l.atom)))

subsumed_decided : (context : Context) (l : Literal) → IsSubsumed context l ⊎ (¬ IsSubsumed context l)
subsumed_decided context l =
    elim (any_entry (Subsuming context l) (λ k e. both_decided _ _ (not_decided _ (hidden_decided context k e)) (both_decided _ _ (kind_decided e.kind Universal) (both_decided _ _ (sign_decided e.positive l.positive) (generalizes_decided e.atom (Of l.atom))))) context) as (λ _. IsSubsumed context l ⊎ (¬ IsSubsumed context l)) [
      | inl h ↦ inl (h.0, h.1, (h.2, h.3.0), h.3.1.0, h.3.1.1.0, h.3.1.1.1)
      | inr none ↦ inr (λ h. none h.0 h.1 h.2.0 (h.2.1, (h.3, (h.4, h.5))))
    ]

abbrev Varying : Context → Literal → ℕ → EntryValue → Type 0
Varying context l k e = (¬ IsHidden context k e) × ((e.positive ≡ l.positive) × IsVariant e.atom (Of l.atom))

has_variant_decided : (context : Context) (l : Literal) → HasVariant context l ⊎ (¬ HasVariant context l)
has_variant_decided context l =
    elim (any_entry (Varying context l) (λ k e. both_decided _ _ (not_decided _ (hidden_decided context k e)) (both_decided _ _ (sign_decided e.positive l.positive) (variant_decided e.atom (Of l.atom)))) context) as (λ _. HasVariant context l ⊎ (¬ HasVariant context l)) [
      | inl h ↦ inl (h.0, h.1, (h.2, h.3.0), h.3.1.0, h.3.1.1)
      | inr none ↦ inr (λ h. none h.0 h.1 h.2.0 (h.2.1, (h.3, h.4)))
    ]

implied : (A B : Type 0) → A ⊎ (¬ A) → B ⊎ (¬ B) → (A → B) ⊎ (¬ (A → B))
implied A B (inr a) q = inl (λ x. absurd (a x))
implied A B (inl a) (inl b) = inl (λ x. b)
implied A B (inl a) (inr b) = inr (λ f. b (f a))

pub le_decided : (m n : ℕ) → (m ≤ n) ⊎ (¬ (m ≤ n))
le_decided m n =
    elim (compared n m) as (λ _. (m ≤ n) ⊎ (¬ (m ≤ n))) [ inl less ↦ inr (λ h. omega (arith, h, less)) | inr h ↦ inl (elim h as (λ _. m ≤ n) [ inl e ↦ omega (arith, e) | inr g ↦ omega (arith, g) ]) ]

pub fits_decided : (bounds : Bounds) (l : Literal) → Fits bounds l ⊎ (¬ Fits bounds l)
fits_decided bounds l = both_decided _ _ (le_decided (literal_depth l) bounds.depth) (le_decided (literal_weight l) bounds.weight)

pub may_decided : (bounds : Bounds) (context : Context) (l : Literal) (kind : Kind) → MayAssert bounds context l kind ⊎ (¬ MayAssert bounds context l kind)
may_decided bounds context l kind =
    elim (both_decided (Fits bounds l) ((¬ IsContradictory context l kind) × ((¬ IsSubsumed context l) × (kind ≡ Parametric → ¬ HasVariant context l))) (fits_decided bounds l)
    (both_decided _ _ (not_decided _ (contradictory_decided context l kind))
    (both_decided _ _ (not_decided _ (subsumed_decided context l)) (implied _ _ (kind_decided kind Parametric) (not_decided _ (has_variant_decided context l)))))) as (λ _. MayAssert bounds context l kind ⊎ (¬ MayAssert bounds context l kind)) [
      | inl h ↦ inl (record { fits = h.0; consistent = h.1.0; not_subsumed = h.1.1.0; no_variant = h.1.1.1 })
      | inr never ↦ inr (λ h. never (h.fits, (h.consistent, (h.not_subsumed, h.no_variant))))
    ]
