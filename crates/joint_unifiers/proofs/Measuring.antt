-- The measures of a clause's literals, as they are made and read.
use Rattle.std.proofs.Common.{◌≡◌, ℕ, ◌<◌, List, [], ◌∷◌, ◌++◌, length, get_or, slice_get, Some, refl, sym, subst, ap, ◌∙◌, arith, inl, inr}
use Rattle.std.proofs.lemmas.Option.{slice_get_read, same_Some}
use Rattle.me_terms.specs.Substitutions.{Family}
use Rattle.me_terms.specs.Unifier.{unified}
use Rattle.me_terms.specs.declared.atom.Literal.{Literal}
use Rattle.me_unify.specs.Equations.{Equation, IsMostGeneral}
use Rattle.me_unify.specs.Measured.{IsAtomMeasure}
use Rattle.me_unify.specs.declared.measure.Measure.{Measure}
use Rattle.me_unify.proofs.Bound.{at_push}
use Rattle.joint_unifiers.specs.Measured.{IsMeasuredUnifier}

-- each measure so far is that of the literal at its place
abbrev pub AreMeasures : List Equation → List Literal → List Measure → Type 0
AreMeasures equations literals measures =
    (place : ℕ) (l : Literal) (m : Measure) (u : Family) → slice_get literals place ≡ Some l → slice_get measures place ≡ Some m → IsMostGeneral equations u → IsAtomMeasure (unified u l).atom m

-- what is read at a place is the measure of the literal there
pub measure_at : {remainder : List ℕ} (es : List Equation) (ls : List Literal) (ms : List Measure) (place : ℕ) (m : Measure) → IsMeasuredUnifier es ls ms remainder → place < length ls → m ≡ get_or ms place m
    → (u : Family) (l : Literal) → IsMostGeneral es u → slice_get ls place ≡ Some l → IsAtomMeasure (unified u l).atom m
measure_at es ls ms place m h within is u l general at =
    let there : slice_get ms place ≡ Some m = slice_get_read ms (length ms) place m refl (omega (arith, h.measured.each_place, within)) is in
    h.measured.measured place l m u at there general

pub none_measured : (es : List Equation) (ls : List Literal) → AreMeasures es ls []
none_measured es ls place l m u at there general = cc

-- one measure more, of the next literal
pub measured_more : (es : List Equation) (ls : List Literal) (ms : List Measure) (l : Literal) (m : Measure) → AreMeasures es ls ms → slice_get ls (length ms) ≡ Some l → ((u : Family) → IsMostGeneral es u → IsAtomMeasure (unified u l).atom m)
    → AreMeasures es ls (ms ++ m ∷ [])
measured_more es ls ms l m before at is place k n u there found general = elim (at_push ms m place n found) [
  | inl q ↦ before place k n u there q general
  | inr q ↦
      let P : Literal × Measure → Type 0 = λ z. IsAtomMeasure (unified u z.0).atom z.1 in
      let same : l ≡ k = same_Some l k (sym at ∙ (ap (λ i. slice_get ls i) (sym q.0) ∙ there)) in
      let here : m ≡ n = sym q.1 in
      subst P (λ i. (same i, here i)) (is u general)
]
