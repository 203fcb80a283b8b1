-- In a grown context an atom stands at most twice.
use Rattle.std.proofs.Common.{◌≡◌, ℕ, zero, suc, ◌<◌, Bool, true, false, not, ◌⊎◌, inl, inr, List, length, refl, sym, subst, ap, ◌∙◌, arith}
use Rattle.std.proofs.lemmas.Bool.{cases_order}
use Rattle.std.proofs.lemmas.Option.{slice_get_within}
use Rattle.me_terms.specs.Substitutions.{IsVariant}
use Rattle.me_terms.specs.Measures.{complement, canonical_literal}
use Rattle.me_terms.specs.Values.{ProblemValue, EntryValue, SplitLeft, SplitRight}
use Rattle.me_terms.specs.Context.{Context, StandsAt, IsContext, add}
use Rattle.me_terms.specs.Unifier.{unified}
use Rattle.me_terms.specs.Assert.{IsAssert}
use Rattle.me_terms.specs.Split.{IsSplit, split_kind}
use Rattle.me_terms.specs.Grown.{start, split_entry, IsGrown, started, asserted, went_left, went_right}
use Rattle.me_terms.specs.declared.bounds.Bounds.{Bounds}
use Rattle.me_terms.specs.declared.bounds.Start.{Start}
use Rattle.me_terms.specs.declared.entry.Kind.TheVariants.{Universal, Parametric}
use Rattle.me_terms.specs.declared.atom.Literal.{Literal}
use Rattle.me_terms.specs.declared.atom.Pattern.{Pattern}
use Rattle.me_terms.specs.declared.atom.Pattern.TheVariants.{Of}
use Rattle.me_laws.proofs.Generality.{generalizes_transitive}
use Rattle.me_laws.proofs.NoContradiction.{split_apart}
use Rattle.me_laws.proofs.Grown.{grown, assert_apart}
use Rattle.me_laws.proofs.Added.{add_cases}
use Rattle.me_laws_counting.specs.Twice.{Sharpens, RepeatsSharpen, NoneThrice, StandsNowhere}
use Rattle.me_laws_counting.proofs.Covered.{opposite, own_sign}

-- what stands in the new context is old and stands before its end, or is the new entry at the end
old_or_last : (context : Context) (e : EntryValue) (k : ℕ) (f : EntryValue) → StandsAt (add context e) k f → (StandsAt context k f × (k < length context)) ⊎ ((k ≡ length context) × (e ≡ f))
old_or_last context e k f h =
    elim (add_cases context e k f h) as (λ _. (StandsAt context k f × (k < length context)) ⊎ ((k ≡ length context) × (e ≡ f))) [ inl old ↦ inl (old, slice_get_within context k f old) | inr new ↦ inr new ]

signs : (a b : Bool) → (a ≡ b) ⊎ (a ≡ not b)
signs true true = inl refl
signs true false = inr refl
signs false true = inr refl
signs false false = inl refl

not_not : (a b : Bool) → a ≡ b → a ≡ not (not b)
not_not a true h = h
not_not a false h = h

pub assert_sharpens : (problem : ProblemValue) (bounds : Bounds) (context : Context) (c place : ℕ) (tuple : List ℕ) (e : EntryValue) → IsAssert problem bounds context c place tuple e → (k : ℕ) (f : EntryValue) → StandsAt context k f → IsVariant f.atom e.atom → Sharpens f e
assert_sharpens problem bounds context c place tuple e h k f stands variant =
    let l = canonical_literal (unified h.family h.literal) in
    let sign : e.positive ≡ l.positive = ap (λ (x : EntryValue). x.positive) h.entry in
    let atom : e.atom ≡ Of l.atom = ap (λ (x : EntryValue). x.atom) h.entry in
    let P : Pattern → Type 0 = λ x. IsVariant f.atom x in
    elim (signs f.positive e.positive) as (λ _. Sharpens f e) [
      | inl same ↦ let kinds = own_sign context l e.kind h.allowed.not_subsumed h.allowed.no_variant k f stands (same ∙ sign) (subst P atom variant) in record { parametric = kinds.0; universal = kinds.1; same_sign = same }
      | inr other ↦ absurd (opposite context e.positive e.kind e.atom (assert_apart problem bounds context c place tuple e h) k f stands other variant)
    ]

pub split_is_new : (problem : ProblemValue) (bounds : Bounds) (context : Context) (c place size : ℕ) (tuple : List ℕ) (l : Literal) → IsContext context → IsSplit problem bounds context c place tuple size l → StandsNowhere context l
split_is_new problem bounds context c place size tuple l context_is h k f stands variant =
    let both = split_apart problem bounds context c tuple place size l context_is h in
    elim (signs f.positive l.positive) as (λ _. ⊥) [
      | inl same ↦ opposite context (complement l).positive (split_kind l) (Of l.atom) both.1 k f stands (not_not f.positive l.positive same) variant
      | inr other ↦ opposite context l.positive (split_kind l) (Of l.atom) both.0 k f stands other variant
    ]

pub add_sharpens : (context : Context) (e : EntryValue) → RepeatsSharpen context → ((k : ℕ) (f : EntryValue) → StandsAt context k f → IsVariant f.atom e.atom → Sharpens f e) → RepeatsSharpen (add context e)
add_sharpens context e old new j k d f lt first second variant =
    elim (old_or_last context e k f second) as (λ _. Sharpens d f) [
      | inl there ↦ elim (old_or_last context e j d first) as (λ _. Sharpens d f) [
        | inl here ↦ old j k d f lt here.0 there.0 variant
        | inr end ↦ absurd (omega (arith, there.1, end.0))
      ]
      | inr there ↦ elim (old_or_last context e j d first) as (λ _. Sharpens d f) [
        | inl here ↦ let P : EntryValue → Type 0 = λ x. IsVariant d.atom x.atom → Sharpens d x in subst P there.1 (new j d here.0) variant
        | inr end ↦ absurd (omega (arith, there.0, end.0))
      ]
    ]

start_sharpens : (begins : Start) → RepeatsSharpen (start begins)
start_sharpens begins j zero e f lt first second variant = absurd (omega arith)
start_sharpens begins j (suc k) e f lt first second variant = cc second

pub repeats_sharpen : {problem : ProblemValue} {bounds : Bounds} {context : Context} → IsGrown problem bounds context → RepeatsSharpen context
repeats_sharpen {bounds = bounds} started = start_sharpens bounds.start
repeats_sharpen {problem} {bounds} (asserted {context = context} {e = e} h next) =
    let least = next.2 in
    add_sharpens context e (repeats_sharpen h) (assert_sharpens problem bounds context least.0 least.1 least.2 e least.3)
repeats_sharpen {problem} {bounds} (went_left {context = context} {l = l} {kind = kind} h next) =
    let least = next.3 in
    let new = split_is_new problem bounds context least.0 least.1 least.2 least.3 l (grown h).0 least.4 in
    add_sharpens context (split_entry l kind SplitLeft) (repeats_sharpen h) (λ k f stands variant. absurd (new k f stands variant))
repeats_sharpen {problem} {bounds} (went_right {context = context} {l = l} {kind = kind} h next) =
    let least = next.3 in
    let new = split_is_new problem bounds context least.0 least.1 least.2 least.3 l (grown h).0 least.4 in
    add_sharpens context (split_entry (complement l) kind SplitRight) (repeats_sharpen h) (λ k f stands variant. absurd (new k f stands variant))

variants_meet : (p q r : Pattern) → IsVariant p r → IsVariant q r → IsVariant p q
variants_meet p q r f g = (generalizes_transitive p r q f.0 g.1, generalizes_transitive q r p g.0 f.1)

-- a Parametric entry sharpens none
never_both : (d e f : EntryValue) → Sharpens d e → Sharpens e f → ⊥
never_both d e f h g = let kinds : Universal ≡ Parametric = sym h.universal ∙ g.parametric in cc kinds

pub none_thrice : (context : Context) → RepeatsSharpen context → NoneThrice context
none_thrice context h i j k d e f first second one two three variant again = never_both d e f (h i j d e first one two variant) (h j k e f second two three again)

pub repeats_one : (context : Context) (e : EntryValue) → RepeatsSharpen context → ((k : ℕ) (f : EntryValue) → StandsAt context k f → IsVariant f.atom e.atom → Sharpens f e) → (j k : ℕ) (f g : EntryValue) → StandsAt context j f → StandsAt context k g → IsVariant f.atom e.atom → IsVariant g.atom e.atom → j ≡ k
repeats_one context e h new j k f g one two variant again =
    elim (cases_order j k) as (λ _. j ≡ k) [
      | inl same ↦ same
      | inr other ↦ elim other as (λ _. j ≡ k) [
        | inl lt ↦ absurd (never_both f g e (h j k f g lt one two (variants_meet f.atom g.atom e.atom variant again)) (new k g two again))
        | inr gt ↦ absurd (never_both g f e (h k j g f gt two one (variants_meet g.atom f.atom e.atom again variant)) (new j f one variant))
      ]
    ]
