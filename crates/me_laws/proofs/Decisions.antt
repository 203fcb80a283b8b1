-- Whether an entry is hidden, and whether a literal is produced, is decided.
use Rattle.std.proofs.Common.{◌≡◌, ℕ, zero, suc, ◌<◌, Bool, true, false, ◌⊎◌, inl, inr, [], ◌∷◌, refl, sym, subst, arith}
use Rattle.std.proofs.lemmas.Option.{same_Some}
use Rattle.me_terms.specs.Terms.{AtomValue}
use Rattle.me_terms.specs.Substitutions.{Generalizes, IsStrictlyMoreGeneral}
use Rattle.me_terms.specs.Measures.{complement}
use Rattle.me_terms.specs.Values.{EntryValue}
use Rattle.me_terms.specs.Context.{Context, StandsAt, IsContext, IsHidden}
use Rattle.me_terms.specs.Produces.{HasException, IsProduced, IsTrueIn}
use Rattle.me_terms.specs.declared.entry.Kind.{Kind}
use Rattle.me_terms.specs.declared.entry.Kind.TheVariants.{Universal, Parametric}
use Rattle.me_terms.specs.declared.atom.Literal.{Literal}
use Rattle.me_terms.specs.declared.atom.Pattern.TheVariants.{Of}
use Rattle.me_laws.proofs.Generality.{generalizes_decided, strictly_decided}
use Rattle.me_laws.proofs.Totality.{total}

pub both_decided : (A B : Type 0) → A ⊎ (¬ A) → B ⊎ (¬ B) → (A × B) ⊎ (¬ (A × B))
both_decided A B (inl a) (inl b) = inl (a, b)
both_decided A B (inl a) (inr b) = inr (λ h. b h.1)
both_decided A B (inr a) q = inr (λ h. a h.0)

pub either_decided : (A B : Type 0) → A ⊎ (¬ A) → B ⊎ (¬ B) → (A ⊎ B) ⊎ (¬ (A ⊎ B))
either_decided A B (inl a) q = inl (inl a)
either_decided A B (inr a) (inl b) = inl (inr b)
either_decided A B (inr a) (inr b) = inr (λ h. elim h as (λ _. ⊥) [ inl x ↦ a x | inr y ↦ b y ])

pub not_decided : (A : Type 0) → A ⊎ (¬ A) → (¬ A) ⊎ (¬ (¬ A))
not_decided A (inl a) = inr (λ h. h a)
not_decided A (inr a) = inl a

less_decided : (m n : ℕ) → (m < n) ⊎ (¬ (m < n))
less_decided m zero = inr (λ h. omega (arith, h))
less_decided zero (suc n) = inl (omega arith)
less_decided (suc m) (suc n) =
    elim (less_decided m n) as (λ _. (suc m < suc n) ⊎ (¬ (suc m < suc n))) [ inl h ↦ inl (omega (arith, h)) | inr h ↦ inr (λ g. h (omega (arith, g))) ]

pub sign_decided : (a b : Bool) → (a ≡ b) ⊎ (¬ (a ≡ b))
sign_decided true true = inl refl
sign_decided false false = inl refl
sign_decided true false = inr (λ h. cc h)
sign_decided false true = inr (λ h. cc h)

pub kind_decided : (j k : Kind) → (j ≡ k) ⊎ (¬ (j ≡ k))
kind_decided Universal Universal = inl refl
kind_decided Parametric Parametric = inl refl
kind_decided Universal Parametric = inr (λ h. cc h)
kind_decided Parametric Universal = inr (λ h. cc h)

none_of : (P : ℕ → EntryValue → Type 0) (x : EntryValue) (xs : Context) → ¬ P 0 x → ((k : ℕ) (e : EntryValue) → StandsAt xs k e → ¬ P (suc k) e) → (k : ℕ) (e : EntryValue) → StandsAt (x ∷ xs) k e → ¬ P k e
none_of P x xs here later zero e h p = here (subst (P 0) (sym (same_Some x e h)) p)
none_of P x xs here later (suc k) e h p = later k e h p

-- whether some entry of a context has a property that is decided
pub any_entry : (P : ℕ → EntryValue → Type 0) → ((k : ℕ) (e : EntryValue) → P k e ⊎ (¬ P k e)) → (es : Context) → ((k : ℕ) × (e : EntryValue) × StandsAt es k e × P k e) ⊎ ((k : ℕ) (e : EntryValue) → StandsAt es k e → ¬ P k e)
any_entry P decided [] = inr (λ k e h p. cc h)
any_entry P decided (x ∷ xs) =
    elim (decided 0 x) as (λ _. ((k : ℕ) × (e : EntryValue) × StandsAt (x ∷ xs) k e × P k e) ⊎ ((k : ℕ) (e : EntryValue) → StandsAt (x ∷ xs) k e → ¬ P k e)) [
      | inl p ↦ inl (0, x, refl, p)
      | inr here ↦ elim (any_entry (λ k e. P (suc k) e) (λ k e. decided (suc k) e) xs) as (λ _. ((k : ℕ) × (e : EntryValue) × StandsAt (x ∷ xs) k e × P k e) ⊎ ((k : ℕ) (e : EntryValue) → StandsAt (x ∷ xs) k e → ¬ P k e)) [
        | inl h ↦ inl (suc h.0, h.1, h.2, h.3)
        | inr later ↦ inr (none_of P x xs here later)
      ]
    ]

Covering : ℕ → EntryValue → ℕ → EntryValue → Type 0
Covering k e j later = ((k < j) × (later.kind ≡ Universal)) × ((later.positive ≡ e.positive) × Generalizes later.atom e.atom)

covering_decided : (k : ℕ) (e : EntryValue) (j : ℕ) (later : EntryValue) → Covering k e j later ⊎ (¬ Covering k e j later)
unfolding Covering
covering_decided k e j later =
    both_decided _ _ (both_decided _ _ (less_decided k j) (kind_decided later.kind Universal))
    (both_decided _ _ (sign_decided later.positive e.positive) (generalizes_decided later.atom e.atom))

pub hidden_decided : (context : Context) (k : ℕ) (e : EntryValue) → IsHidden context k e ⊎ (¬ IsHidden context k e)
unfolding Covering
hidden_decided context k e =
    elim (any_entry (Covering k e) (covering_decided k e) context) as (λ _. IsHidden context k e ⊎ (¬ IsHidden context k e)) [
      | inl h ↦ inl (h.0, h.1, record { is_later = h.3.0.0; stands = h.2; covers = record { is_universal = h.3.0.1; same_sign = h.3.1.0; generalizes = h.3.1.1 } })
      | inr none ↦ inr (λ h. none h.0 h.1 h.2.stands ((h.2.is_later, h.2.covers.is_universal), (h.2.covers.same_sign, h.2.covers.generalizes)))
    ]

Excepting : Context → EntryValue → AtomValue → ℕ → EntryValue → Type 0
Excepting context e a j f =
    (¬ IsHidden context j f) × (Generalizes f.atom (Of a) × ((f.kind ≡ Universal) ⊎ ((f.kind ≡ Parametric) × IsStrictlyMoreGeneral e.atom f.atom)))

excepting_decided : (context : Context) (e : EntryValue) (a : AtomValue) (j : ℕ) (f : EntryValue) → Excepting context e a j f ⊎ (¬ Excepting context e a j f)
unfolding Excepting
excepting_decided context e a j f =
    both_decided _ _ (not_decided _ (hidden_decided context j f))
    (both_decided _ _ (generalizes_decided f.atom (Of a))
    (either_decided _ _ (kind_decided f.kind Universal) (both_decided _ _ (kind_decided f.kind Parametric) (strictly_decided e.atom f.atom))))

pub exception_decided : (context : Context) (e : EntryValue) (a : AtomValue) → HasException context e a ⊎ (¬ HasException context e a)
unfolding Excepting
exception_decided context e a =
    elim (any_entry (Excepting context e a) (excepting_decided context e a) context) as (λ _. HasException context e a ⊎ (¬ HasException context e a)) [
      | inl h ↦ inl (h.0, h.1, (h.2, h.3.0), h.3.1.0, h.3.1.1)
      | inr none ↦ inr (λ h. none h.0 h.1 h.2.0 (h.2.1, (h.3, h.4)))
    ]

Producing : Context → Literal → ℕ → EntryValue → Type 0
Producing context l k e =
    (¬ IsHidden context k e) × ((e.positive ≡ l.positive) × (Generalizes e.atom (Of l.atom) × ((e.kind ≡ Universal) ⊎ (¬ HasException context e l.atom))))

producing_decided : (context : Context) (l : Literal) (k : ℕ) (e : EntryValue) → Producing context l k e ⊎ (¬ Producing context l k e)
unfolding Producing
producing_decided context l k e =
    both_decided _ _ (not_decided _ (hidden_decided context k e))
    (both_decided _ _ (sign_decided e.positive l.positive)
    (both_decided _ _ (generalizes_decided e.atom (Of l.atom)) (either_decided _ _ (kind_decided e.kind Universal) (not_decided _ (exception_decided context e l.atom)))))

pub produced_decided : (context : Context) (l : Literal) → IsProduced context l ⊎ (¬ IsProduced context l)
unfolding Producing
produced_decided context l =
    elim (any_entry (Producing context l) (producing_decided context l) context) as (λ _. IsProduced context l ⊎ (¬ IsProduced context l)) [
      | inl h ↦ inl (h.0, h.1, record { visible = (h.2, h.3.0); same_sign = h.3.1.0; generalizes = h.3.1.1.0; undisputed = h.3.1.1.1 })
      | inr none ↦ inr (λ h. none h.0 h.1 h.2.visible.0 (h.2.visible.1, (h.2.same_sign, (h.2.generalizes, h.2.undisputed))))
    ]

by_sign : (context : Context) (a : AtomValue) → ¬ IsProduced context (record { positive = true; atom = a }) → (positive : Bool) → IsProduced context (record { positive = positive; atom = a }) → IsProduced context (record { positive = false; atom = a })
by_sign context a none true h = absurd (none h)
by_sign context a none false h = h

true_or_complement : (context : Context) → IsContext context → (positive : Bool) (a : AtomValue) → IsTrueIn context (record { positive = positive; atom = a }) ⊎ IsProduced context (complement (record { positive = positive; atom = a }))
true_or_complement context h true a =
    elim (produced_decided context (record { positive = true; atom = a })) as (λ _. IsTrueIn context (record { positive = true; atom = a }) ⊎ IsProduced context (record { positive = false; atom = a })) [
      | inl p ↦ inl p
      | inr none ↦ let some = total context h a in inr (by_sign context a none some.0 some.1)
    ]
true_or_complement context h false a =
    elim (produced_decided context (record { positive = true; atom = a })) as (λ _. IsTrueIn context (record { positive = false; atom = a }) ⊎ IsProduced context (record { positive = true; atom = a })) [
      | inl p ↦ inr p
      | inr none ↦ inl none
    ]

-- a literal is true in the induced interpretation, or some entry produces its complement
pub true_or_opposed : (context : Context) → IsContext context → (l : Literal) → IsTrueIn context l ⊎ IsProduced context (complement l)
true_or_opposed context h l = true_or_complement context h l.positive l.atom
