-- What frozen equations tell, and exceptions one position after another.
use Rattle.std.proofs.Common.{◌≡◌, ℕ, ◌+◌, ◌<◌, ◌≤◌, ◌⊎◌, ◌↔◌, inl, inr, IsTrue, Bool, List, length, slice_get, Some, sym, ap, subst, ◌∙◌, arith}
use Rattle.std.proofs.lemmas.Bool.{cases_lt}
use Rattle.std.proofs.lemmas.Option.{same_Some, slice_get_within}
use Rattle.me_terms.specs.Terms.{AtomValue}
use Rattle.me_terms.specs.Substitutions.{Generalizes, IsStrictlyMoreGeneral}
use Rattle.me_terms.specs.Values.{EntryValue}
use Rattle.me_terms.specs.Context.{Context, IsVisible}
use Rattle.me_terms.specs.Produces.{HasException}
use Rattle.me_terms.specs.declared.entry.Kind.TheVariants.{Universal, Parametric}
use Rattle.me_terms.specs.declared.atom.Pattern.{Pattern}
use Rattle.me_terms.specs.declared.atom.Pattern.TheVariants.{Of}
use Rattle.me_unify.specs.Equations.{Equation}
use Rattle.induced_model.specs.Producers.{ExceptsAt}
use Rattle.context_unifier.specs.Frozen.{IsFrozen, TellInstances}
use Rattle.context_unifier.proofs.FrozenSolutions.{none_frozen}

-- ---- the same equations
pub tells_same : (one one' other other' : List Equation) (a c : AtomValue) → one ≡ one' → other ≡ other' → TellInstances one other a c → TellInstances one' other' a c
tells_same one one' other other' a c e d h =
    subst (λ (z : List Equation). TellInstances one' z a c) d (subst (λ (y : List Equation). TellInstances y other a c) e h)

pub starts : (es bs fs : List Equation) (first n : ℕ) → bs ≡ es → fs ≡ bs → n ≡ first → IsFrozen es first fs n
starts es bs fs first n is e d =
    subst (λ (k : ℕ). IsFrozen es first fs k) (sym d) (subst (λ (gs : List Equation). IsFrozen es first gs first) (sym (e ∙ is)) (none_frozen es first))

-- ---- one position
pub excepts_by : (context : Context) (j : ℕ) (e f : EntryValue) (p : Pattern) (d : AtomValue) (b : Bool) → slice_get context j ≡ Some f → ((x : EntryValue) × IsVisible context j x) → ((f.kind ≡ Universal) ⊎ ((f.kind ≡ Parametric) × IsStrictlyMoreGeneral e.atom f.atom)) → p ≡ f.atom
    → (IsTrue b ↔ Generalizes p (Of d)) → IsTrue b ↔ ExceptsAt context j e d
excepts_by context j e f p d b stands seen stronger same h =
    let P : EntryValue → Type 0 = λ x. IsVisible context j x in
    let visible : IsVisible context j f = subst P (same_Some seen.0 f (sym seen.1.0 ∙ stands)) seen.1 in
    let there : IsTrue b → Generalizes f.atom (Of d) = λ t. subst (λ (q : Pattern). Generalizes q (Of d)) same (h.0 t) in
    let back : ExceptsAt context j e d → Generalizes p (Of d) = λ x.
    let own : x.0 ≡ f = same_Some x.0 f (sym x.1.0 ∙ stands) in
    subst (λ (q : Pattern). Generalizes q (Of d)) (ap (λ (y : EntryValue). y.atom) own ∙ sym same) x.2.generalizes in (
      λ t. (f, visible, record { generalizes = there t; stronger = stronger }),
      λ x. h.1 (back x),
    )

-- ---- all positions
pub some_exception : (context : Context) (j : ℕ) (e : EntryValue) (d : AtomValue) → ExceptsAt context j e d → HasException context e d
some_exception context j e d x = (j, x.0, x.1, x.2.generalizes, x.2.stronger)

pub no_exception : (context : Context) (n : ℕ) (e : EntryValue) (d : AtomValue) → length context ≤ n → ((i : ℕ) → i < n → ¬ ExceptsAt context i e d) → ¬ HasException context e d
no_exception context n e d all none x =
    let within = slice_get_within context x.0 x.1 x.2.0 in
    none x.0 (omega (arith, within, all)) (x.1, x.2, record { generalizes = x.3; stronger = x.4 })

pub none_yet : (context : Context) (j : ℕ) (e : EntryValue) (d : AtomValue) → ((i : ℕ) → i < j → ¬ ExceptsAt context i e d) → ¬ ExceptsAt context j e d → (i : ℕ) → i < j + 1 → ¬ ExceptsAt context i e d
none_yet context j e d before here i lt =
    elim (cases_lt i j) as (λ _. ¬ ExceptsAt context i e d) [ inl less ↦ before i less | inr ge ↦ (let same : j ≡ i = omega (arith, ge, lt) in subst (λ (k : ℕ). ¬ ExceptsAt context k e d) same here) ]
