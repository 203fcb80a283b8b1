-- Counts that stop at the greatest u64, against lawful bounds.
use Rattle.std.proofs.Common.{◌≡◌, ℕ, ◌<◌, ◌≤◌, sym, subst, ◌∙◌, arith}
use Rattle.me_terms.specs.Measures.{GREATEST_U64, capped, literal_depth, literal_weight, canonical_literal}
use Rattle.me_terms.specs.Fits.{Fits}
use Rattle.me_terms.specs.Validity.{IsLawful}
use Rattle.me_terms.specs.declared.bounds.Bounds.{Bounds}
use Rattle.me_terms.specs.declared.atom.Literal.{Literal}
use Rattle.joint_unifiers.proofs.CanonicalMeasures.{canonical_depth, canonical_weight}

pub capped_within : (n bound : ℕ) → bound < GREATEST_U64 → capped n ≤ bound → n ≤ bound
capped_within n bound lt le = omega (arith, lt, le)

pub within_capped : (n bound : ℕ) → n ≤ bound → capped n ≤ bound
within_capped n bound le = omega (arith, le)

pub capped_exact : (n bound : ℕ) → bound < GREATEST_U64 → n ≤ bound → capped n ≡ n
capped_exact n bound lt le = omega (arith, lt, le)

pub depth_small : (bounds : Bounds) → IsLawful bounds → bounds.depth < GREATEST_U64
depth_small bounds h = let le = h.depth.1 in omega (arith, le)

pub weight_small : (bounds : Bounds) → IsLawful bounds → bounds.weight < GREATEST_U64
weight_small bounds h = let le = h.weight.1 in omega (arith, le)

-- A literal whose capped counts are within lawful bounds fits, and no other does.
pub fits_by : (bounds : Bounds) (l : Literal) (d w : ℕ) → IsLawful bounds → d ≡ capped (literal_depth l) → w ≡ capped (literal_weight l) → d ≤ bounds.depth → w ≤ bounds.weight → Fits bounds l
fits_by bounds l d w h deep heavy le below = (
  capped_within (literal_depth l) bounds.depth (depth_small bounds h) (subst (λ (n : ℕ). n ≤ bounds.depth) deep le),
  capped_within (literal_weight l) bounds.weight (weight_small bounds h) (subst (λ (n : ℕ). n ≤ bounds.weight) heavy below),
)

pub by_fits : (bounds : Bounds) (l : Literal) (d w : ℕ) → d ≡ capped (literal_depth l) → w ≡ capped (literal_weight l) → Fits bounds l → (d ≤ bounds.depth) × (w ≤ bounds.weight)
by_fits bounds l d w deep heavy fits = (
  subst (λ (n : ℕ). n ≤ bounds.depth) (sym deep) (within_capped (literal_depth l) bounds.depth fits.0),
  subst (λ (n : ℕ). n ≤ bounds.weight) (sym heavy) (within_capped (literal_weight l) bounds.weight fits.1),
)

-- The weight of a literal that fits is exact.
pub fitting_weight : (bounds : Bounds) (l : Literal) (w : ℕ) → IsLawful bounds → w ≡ capped (literal_weight l) → Fits bounds l → w ≡ literal_weight l
fitting_weight bounds l w h heavy fits = heavy ∙ capped_exact (literal_weight l) bounds.weight (weight_small bounds h) fits.1

-- A literal fits exactly where its canonical form does.
pub canonical_fits : (bounds : Bounds) (l : Literal) → Fits bounds l → Fits bounds (canonical_literal l)
canonical_fits bounds l fits = (
  subst (λ (n : ℕ). n ≤ bounds.depth) (sym (canonical_depth l)) fits.0,
  subst (λ (n : ℕ). n ≤ bounds.weight) (sym (canonical_weight l)) fits.1,
)

pub fits_canonical : (bounds : Bounds) (l : Literal) → Fits bounds (canonical_literal l) → Fits bounds l
fits_canonical bounds l fits = (
  subst (λ (n : ℕ). n ≤ bounds.depth) (canonical_depth l) fits.0,
  subst (λ (n : ℕ). n ≤ bounds.weight) (canonical_weight l) fits.1,
)
