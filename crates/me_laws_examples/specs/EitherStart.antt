-- What the two contexts in which a search can begin make true.
use Rattle.std.specs.Prelude.{true, false}
use Rattle.me_terms.specs.Terms.{AtomValue}
use Rattle.me_terms.specs.Context.{pseudo}
use Rattle.me_terms.specs.Produces.{Produces, IsInduced, IsTrueIn}
use Rattle.me_terms.specs.Grown.{sign_of, start}
use Rattle.me_terms.specs.declared.bounds.Start.{Start}
use Rattle.me_terms.specs.declared.bounds.Start.TheVariants.{Negative, Positive}
use Rattle.me_laws_examples.specs.Letters.{literal}

-- The pseudo-literal of a sign produces every literal of that sign. So the positive start induces every atom, and the negative one none. Every ground atom is true by the one and false by the other.
pub record EitherStart : Type 0 where
  pub by_default : (begins : Start) (atom : AtomValue) → Produces (start begins) 0 (pseudo (sign_of begins)) (literal (sign_of begins) atom)
  pub positive_induces : (atom : AtomValue) → IsInduced (start Positive) atom
  pub negative_induces_none : (atom : AtomValue) → ¬ IsInduced (start Negative) atom
  pub positive_true : (atom : AtomValue) → IsTrueIn (start Positive) (literal true atom)
  pub positive_not_false : (atom : AtomValue) → ¬ IsTrueIn (start Positive) (literal false atom)
  pub negative_false : (atom : AtomValue) → IsTrueIn (start Negative) (literal false atom)
  pub negative_not_true : (atom : AtomValue) → ¬ IsTrueIn (start Negative) (literal true atom)
