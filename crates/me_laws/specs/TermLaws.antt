-- Laws of the order by generality.
use Rattle.std.specs.Prelude.{◌≡◌}
use Rattle.me_terms.specs.Terms.{AtomValue}
use Rattle.me_terms.specs.Variables.{canonical, depths, weights}
use Rattle.me_terms.specs.Substitutions.{IsInstance, Generalizes}
use Rattle.me_terms.specs.declared.atom.Pattern.{Pattern}

-- Being at least as general is reflexive and transitive.
pub record GeneralityIsOrder : Type 0 where
  pub reflexive : (p : Pattern) → Generalizes p p
  pub transitive : (p q r : Pattern) → Generalizes p q → Generalizes q r → Generalizes p r

-- Atoms that are instances of each other have the same canonical form, depth and weight.
abbrev pub VariantsAreAlike : Type 0
VariantsAreAlike = (a b : AtomValue) → IsInstance a b → IsInstance b a → (canonical a ≡ canonical b) × (depths a.args ≡ depths b.args) × (weights a.args ≡ weights b.args)
