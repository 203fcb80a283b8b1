-- What is counted of a clause's literals under what is most general for equations.
use Rattle.std.specs.Prelude.{◌≡◌, ℕ, List, length, slice_get, Some}
use Rattle.me_terms.specs.Substitutions.{Family}
use Rattle.me_terms.specs.Unifier.{unified}
use Rattle.me_terms.specs.declared.atom.Literal.{Literal}
use Rattle.me_unify.specs.Equations.{Equation, IsMostGeneral}
use Rattle.me_unify.specs.Measured.{IsAtomMeasure}
use Rattle.me_unify.specs.declared.measure.Measure.{Measure}
use Rattle.joint_unifiers.specs.Places.{ArePlaces}

-- There is a measure for each literal, which is that of the literal's atom under what is most general for the equations.
pub record HasMeasures (equations : List Equation) (literals : List Literal) (measures : List Measure) : Type 0 where
  pub each_place : length measures ≡ length literals
  pub measured : (place : ℕ) (l : Literal) (m : Measure) (u : Family) → slice_get literals place ≡ Some l → slice_get measures place ≡ Some m → IsMostGeneral equations u → IsAtomMeasure (unified u l).atom m

-- The equations have a most general unifier, under which the literals have these measures, and what remains are places of the literals.
pub record IsMeasuredUnifier (equations : List Equation) (literals : List Literal) (measures : List Measure) (remainder : List ℕ) : Type 0 where
  pub family : (u : Family) × IsMostGeneral equations u
  pub measured : HasMeasures equations literals measures
  pub places : ArePlaces literals remainder
