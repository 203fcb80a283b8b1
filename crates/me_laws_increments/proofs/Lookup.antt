-- Refusal by what is looked up.
use Rattle.std.proofs.Common.{◌≡◌, ℕ, zero, suc, Bool, true, false, not, ◌⊎◌, inl, inr, IsTrue, refl, sym, subst, ap, ◌∙◌, arith}
use Rattle.std.proofs.lemmas.Option.{same_Some}
use Rattle.me_terms.specs.Terms.{AtomValue}
use Rattle.me_terms.specs.Variables.{are_ground, is_canonical, canonical}
use Rattle.me_terms.specs.Substitutions.{Generalizes, IsVariant}
use Rattle.me_terms.specs.Values.{EntryValue}
use Rattle.me_terms.specs.Context.{Context, StandsAt, pseudo, IsContext, IsAtomWith, IsLiteralEntry, IsVisible}
use Rattle.me_terms.specs.Contradictory.{Unifiable, Clash}
use Rattle.me_terms.specs.declared.entry.Kind.{Kind}
use Rattle.me_terms.specs.declared.entry.Kind.TheVariants.{Universal, Parametric}
use Rattle.me_terms.specs.declared.atom.Literal.{Literal}
use Rattle.me_terms.specs.declared.atom.Pattern.{Pattern}
use Rattle.me_terms.specs.declared.atom.Pattern.TheVariants.{Any, Of}
use Rattle.me_laws.proofs.Generality.{generalizes_reflexive}
use Rattle.me_laws.proofs.Decisions.{sign_decided, hidden_decided}
use Rattle.me_laws.proofs.NoContradiction.{ground_atom}
use Rattle.me_laws.proofs.CanonicalForm.{canonical_form}
use Rattle.me_laws_increments.specs.Replacement.{IsCovered, IsFixed}
use Rattle.me_laws_increments.specs.Refusals.{Refuses}
use Rattle.me_laws_increments.specs.Lookup.{StandsSomewhere, IsSeen, IsBelowVariables, MeetsUniversal, IsAboveParametric, FixedIsRefused, GroundRefusals, ParametricRefusals, UniversalRefusals, GroundIsFixed}
use Rattle.me_laws_increments.proofs.Replacement.{replaced}
use Rattle.me_laws_increments.proofs.Refusals.{unifiable_by, by_kind}

pub other_sign : (a b : Bool) → ¬ (a ≡ b) → a ≡ not b
other_sign true true h = absurd (h refl)
other_sign true false h = refl
other_sign false true h = refl
other_sign false false h = absurd (h refl)

-- ---- what is fixed is refused
pub above_clashes : (p : Pattern) (a : AtomValue) (kind : Kind) → Generalizes p (Of a) → Clash Universal p kind (Of a)
above_clashes p a Universal g = unifiable_by p (Of a) (Of a) g (generalizes_reflexive (Of a))
above_clashes p a Parametric g = g

pub fixed_is_refused : FixedIsRefused
fixed_is_refused context l kind h =
    let at = h.1 in
    elim (sign_decided at.1.positive l.positive) as (λ _. Refuses context l kind) [
      | inl same ↦ inr (inl (at.0, at.1, at.2, at.3, same, at.5))
      | inr other ↦ inl (at.0, at.1, at.2, other_sign at.1.positive l.positive other, by_kind at.1.atom (Of l.atom) Universal at.1.kind kind at.3 (above_clashes at.1.atom l.atom kind at.5))
    ]

-- ---- the entries of a context
-- an entry with an atom is a literal
literal_entry : (context : Context) → IsContext context → (k : ℕ) (e : EntryValue) (a : AtomValue) → StandsAt context k e → e.atom ≡ Of a → IsLiteralEntry e
literal_entry context h zero e a stands is =
    let same : pseudo h.first.0 ≡ e = same_Some (pseudo h.first.0) e (sym h.first.1 ∙ stands) in
    let atoms : Any ≡ Of a = ap (λ (f : EntryValue). f.atom) same ∙ is in cc atoms
literal_entry context h (suc k) e a stands is = h.later (suc k) e (omega arith) stands

universal_entry : (context : Context) → IsContext context → (k : ℕ) (e : EntryValue) → StandsAt context k e → e.kind ≡ Universal → IsLiteralEntry e
universal_entry context h zero e stands is =
    let same : pseudo h.first.0 ≡ e = same_Some (pseudo h.first.0) e (sym h.first.1 ∙ stands) in
    let kinds : Parametric ≡ Universal = ap (λ (f : EntryValue). f.kind) same ∙ is in cc kinds
universal_entry context h (suc k) e stands is = h.later (suc k) e (omega arith) stands

abbrev Literary : Kind → Pattern → Type 0
Literary kind p = IsAtomWith (λ a. IsTrue (is_canonical a) × (IsTrue (are_ground a.args) → kind ≡ Universal)) p

-- an entry of a ground atom is Universal
ground_universal : (context : Context) → IsContext context → (k : ℕ) (e : EntryValue) (a : AtomValue) → StandsAt context k e → e.atom ≡ Of a → IsTrue (are_ground a.args) → e.kind ≡ Universal
ground_universal context h k e a stands is ground =
    let P : Pattern → Type 0 = λ p. Literary e.kind p in
    (subst P is (literal_entry context h k e a stands is)).1 ground

-- ---- a ground literal
ground_met : (p : Pattern) (a : AtomValue) → IsTrue (are_ground a.args) → Unifiable p (Of a) → Generalizes p (Of a)
ground_met Any a ground h = tt
ground_met (Of b) a ground h = (h.0, h.2 ∙ ground_atom h.1 a ground)

same_ground : (p : Pattern) (a : AtomValue) → IsTrue (are_ground a.args) → Generalizes (Of a) p → p ≡ Of a
same_ground Any a ground h = absurd h
same_ground (Of b) a ground h = ap (λ (x : AtomValue). Of x) (sym (sym (ground_atom h.0 a ground) ∙ h.1))

ground_clash : (context : Context) → IsContext context → (k : ℕ) (e : EntryValue) (a : AtomValue) → IsVisible context k e → IsTrue (are_ground a.args) → (kind : Kind) → e.kind ≡ kind → Clash kind e.atom Universal (Of a) → IsFixed context a
ground_clash context h k e a visible ground Universal is clash = (e.positive, (k, e, visible, is, refl, ground_met e.atom a ground clash))
ground_clash context h k e a visible ground Parametric is clash =
    let kinds : Parametric ≡ Universal = sym is ∙ ground_universal context h k e a visible.0 (same_ground e.atom a ground clash) ground in cc kinds

ground_refused : (context : Context) (l : Literal) → IsContext context → IsTrue (are_ground l.atom.args) → Refuses context l Universal → IsFixed context l.atom
ground_refused context l h ground (inl c) = ground_clash context h c.0 c.1 l.atom c.2 ground c.1.kind refl c.4
ground_refused context l h ground (inr (inl s)) = (l.positive, s)
ground_refused context l h ground (inr (inr v)) = let kinds = v.0 in cc kinds

-- ---- a Parametric literal
same_atom : (kind : Kind) (p : Pattern) (a : AtomValue) → IsTrue (is_canonical a) → Literary kind p → IsVariant p (Of a) → p ≡ Of a
same_atom kind Any a canon h v = absurd h
same_atom kind (Of b) a canon h v =
    let mine : a ≡ canonical a = canonical_form.form_is_only a a canon (generalizes_reflexive (Of a), generalizes_reflexive (Of a)) in
    let theirs : b ≡ canonical a = canonical_form.form_is_only a b h.0 v in
    ap (λ (x : AtomValue). Of x) (theirs ∙ sym mine)

below_any : (p : Pattern) (a : AtomValue) → Generalizes (Of a) p → p ≡ Any → ⊥
below_any Any a g is = g
below_any (Of b) a g is = cc is

variant_literal : (context : Context) → IsContext context → (k : ℕ) (e : EntryValue) (a : AtomValue) → StandsAt context k e → IsVariant e.atom (Of a) → IsLiteralEntry e
variant_literal context h zero e a stands v =
    let same : pseudo h.first.0 ≡ e = same_Some (pseudo h.first.0) e (sym h.first.1 ∙ stands) in
    absurd (below_any e.atom a v.1 (sym (ap (λ (f : EntryValue). f.atom) same)))
variant_literal context h (suc k) e a stands v = h.later (suc k) e (omega arith) stands

seen_variant : (context : Context) → IsContext context → (k : ℕ) (e : EntryValue) (a : AtomValue) → IsVisible context k e → IsTrue (is_canonical a) → IsVariant e.atom (Of a) → IsSeen context a
seen_variant context h k e a visible canon v =
    (k, e, visible, same_atom e.kind e.atom a canon (variant_literal context h k e a visible.0 v) v)

parametric_clash : (context : Context) → IsContext context → (k : ℕ) (e : EntryValue) (a : AtomValue) → IsVisible context k e → IsTrue (is_canonical a) → (kind : Kind) → e.kind ≡ kind → Clash kind e.atom Parametric (Of a) → IsFixed context a ⊎ IsSeen context a
parametric_clash context h k e a visible canon Universal is clash = inl (e.positive, (k, e, visible, is, refl, clash))
parametric_clash context h k e a visible canon Parametric is clash = inr (seen_variant context h k e a visible canon clash)

parametric_refused : (context : Context) (l : Literal) → IsContext context → IsTrue (is_canonical l.atom) → Refuses context l Parametric → IsFixed context l.atom ⊎ IsSeen context l.atom
parametric_refused context l h canon (inl c) = parametric_clash context h c.0 c.1 l.atom c.2 canon c.1.kind refl c.4
parametric_refused context l h canon (inr (inl s)) = inl (l.positive, s)
parametric_refused context l h canon (inr (inr v)) =
    let at = v.1 in inr (seen_variant context h at.0 at.1 l.atom at.2 canon at.4)

variant_itself : (p : Pattern) (a : AtomValue) → p ≡ Of a → IsVariant p (Of a)
variant_itself p a is =
    let P : Pattern → Type 0 = λ q. IsVariant q (Of a) in subst P (sym is) (generalizes_reflexive (Of a), generalizes_reflexive (Of a))

variant_clashes : (p : Pattern) (a : AtomValue) (kind : Kind) → IsVariant p (Of a) → Clash kind p Parametric (Of a)
variant_clashes p a Universal v = v.0
variant_clashes p a Parametric v = v

seen_refused : (context : Context) (l : Literal) → IsSeen context l.atom → Refuses context l Parametric
seen_refused context l h =
    let v = variant_itself h.1.atom l.atom h.3 in
    elim (sign_decided h.1.positive l.positive) as (λ _. Refuses context l Parametric) [
      | inl same ↦ inr (inr (refl, (h.0, h.1, h.2, same, v)))
      | inr other ↦ inl (h.0, h.1, h.2, other_sign h.1.positive l.positive other, variant_clashes h.1.atom l.atom h.1.kind v)
    ]

parametric_back : (context : Context) (l : Literal) → IsFixed context l.atom ⊎ IsSeen context l.atom → Refuses context l Parametric
parametric_back context l (inl h) = fixed_is_refused context l Parametric h
parametric_back context l (inr h) = seen_refused context l h

-- ---- a Universal literal
universal_clash : (context : Context) (l : Literal) (k : ℕ) (e : EntryValue) → IsVisible context k e → e.positive ≡ not l.positive → (kind : Kind) → e.kind ≡ kind → Clash kind e.atom Universal (Of l.atom) → MeetsUniversal context l ⊎ IsAboveParametric context l
universal_clash context l k e visible sign Universal is clash = inl (k, e, visible, is, sign, clash)
universal_clash context l k e visible sign Parametric is clash = inr (k, e, visible, is, sign, clash)

universal_refused : (context : Context) (l : Literal) → Refuses context l Universal → IsFixed context l.atom ⊎ (MeetsUniversal context l ⊎ IsAboveParametric context l)
universal_refused context l (inl c) = inr (universal_clash context l c.0 c.1 c.2 c.3 c.1.kind refl c.4)
universal_refused context l (inr (inl s)) = inl (l.positive, s)
universal_refused context l (inr (inr v)) = let kinds = v.0 in cc kinds

universal_back : (context : Context) (l : Literal) → IsFixed context l.atom ⊎ (MeetsUniversal context l ⊎ IsAboveParametric context l) → Refuses context l Universal
universal_back context l (inl h) = fixed_is_refused context l Universal h
universal_back context l (inr (inl h)) = inl (h.0, h.1, h.2, h.4, by_kind h.1.atom (Of l.atom) Universal h.1.kind Universal h.3 h.5)
universal_back context l (inr (inr h)) = inl (h.0, h.1, h.2, h.4, by_kind h.1.atom (Of l.atom) Parametric h.1.kind Universal h.3 h.5)

-- ---- a ground atom
by_variables : (context : Context) (k : ℕ) (e : EntryValue) (a b : AtomValue) → IsVisible context k e → e.kind ≡ Universal → Generalizes e.atom (Of a) → e.atom ≡ Of b → (test : Bool) → are_ground b.args ≡ test → StandsSomewhere context a ⊎ IsBelowVariables context a
by_variables context k e a b visible universal g is true ground =
    let P : Pattern → Type 0 = λ p. Generalizes p (Of a) in
    let at : Generalizes (Of b) (Of a) = subst P is g in
    inl (k, e, visible.0, is ∙ ap (λ (x : AtomValue). Of x) (sym (ground_atom at.0 b ground) ∙ at.1))
by_variables context k e a b visible universal g is false open_atom =
    let P : Pattern → Type 0 = λ p. IsAtomWith (λ x. ¬ IsTrue (are_ground x.args)) p in
    let some : ¬ IsTrue (are_ground b.args) = λ h. cc (h, open_atom) in
    inr (k, e, visible, universal, subst P (sym is) some, g)

by_pattern : (context : Context) (k : ℕ) (e : EntryValue) (a : AtomValue) → IsVisible context k e → e.kind ≡ Universal → Generalizes e.atom (Of a) → (p : Pattern) → e.atom ≡ p → Literary e.kind p → StandsSomewhere context a ⊎ IsBelowVariables context a
by_pattern context k e a visible universal g Any is h = absurd h
by_pattern context k e a visible universal g (Of b) is h = by_variables context k e a b visible universal g is (are_ground b.args) refl

fixed_by : (context : Context) (a : AtomValue) → IsContext context → IsFixed context a → StandsSomewhere context a ⊎ IsBelowVariables context a
fixed_by context a h c =
    let at = c.1 in by_pattern context at.0 at.1 a at.2 at.3 at.5 at.1.atom refl (universal_entry context h at.0 at.1 at.2.0 at.3)

pub somewhere_fixed : (context : Context) (a : AtomValue) → IsContext context → IsTrue (are_ground a.args) → StandsSomewhere context a → IsFixed context a
somewhere_fixed context a h ground s =
    let P : Pattern → Type 0 = λ p. Generalizes p (Of a) in
    let Q : Pattern → Type 0 = λ p. IsCovered context s.1.positive p in
    elim (hidden_decided context s.0 s.1) as (λ _. IsFixed context a) [
      | inl hidden ↦ (s.1.positive, subst Q s.3 (replaced context s.0 s.1 s.2 hidden))
      | inr seen ↦ (s.1.positive, (s.0, s.1, (s.2, seen), ground_universal context h s.0 s.1 a s.2 s.3 ground, refl, subst P (sym s.3) (generalizes_reflexive (Of a))))
    ]

fixed_back : (context : Context) (a : AtomValue) → IsContext context → IsTrue (are_ground a.args) → StandsSomewhere context a ⊎ IsBelowVariables context a → IsFixed context a
fixed_back context a h ground (inl s) = somewhere_fixed context a h ground s
fixed_back context a h ground (inr b) = (b.1.positive, (b.0, b.1, b.2, b.3, refl, b.5))

pub ground_refusals : GroundRefusals
ground_refusals context l h ground = (ground_refused context l h ground, fixed_is_refused context l Universal)

pub parametric_refusals : ParametricRefusals
parametric_refusals context l h canon = (parametric_refused context l h canon, parametric_back context l)

pub universal_refusals : UniversalRefusals
universal_refusals context l = (universal_refused context l, universal_back context l)

pub ground_is_fixed : GroundIsFixed
ground_is_fixed context a h ground = (fixed_by context a h, fixed_back context a h ground)
