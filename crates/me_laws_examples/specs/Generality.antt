-- Which atoms are more general than which.
use Rattle.me_terms.specs.Substitutions.{Generalizes, IsVariant, IsStrictlyMoreGeneral}
use Rattle.me_terms.specs.declared.atom.Pattern.TheVariants.{Any, Of}
use Rattle.me_terms.specs.Terms.{AtomValue}
use Rattle.me_laws_examples.specs.Letters.{a, b, x0, x1, p, p_of, q_of}
use Rattle.me_laws_examples.specs.MeasuredTerms.{f}

-- An atom generalizes its instances, and both are different only where the other does not generalize it. The pseudo-atom is strictly more general than every atom.
pub record Generality : Type 0 where
  pub instance : Generalizes (Of (p x0 x1)) (Of (p (f x1 a) b))
  pub one_variable_twice : ¬ Generalizes (Of (p x0 x0)) (Of (p x0 x1))
  pub constants_differ : ¬ Generalizes (Of (p_of a)) (Of (p_of b))
  pub common_instance : ¬ Generalizes (Of (p x0 a)) (Of (p b x0))
  pub other_predicate : ¬ Generalizes (Of (p_of x0)) (Of (q_of x0))
  pub renamed : IsVariant (Of (p x0 x1)) (Of (p x1 x0))
  pub instance_is_no_variant : ¬ IsVariant (Of (p x0 x1)) (Of (p x0 x0))
  pub merged_is_stricter : IsStrictlyMoreGeneral (Of (p x0 x1)) (Of (p x0 x0))
  pub not_the_other_way : ¬ IsStrictlyMoreGeneral (Of (p x0 x0)) (Of (p x0 x1))
  pub variant_is_not_stricter : ¬ IsStrictlyMoreGeneral (Of (p x0 x1)) (Of (p x1 x0))
  pub beside : ¬ IsStrictlyMoreGeneral (Of (p_of a)) (Of (p_of b))
  pub pseudo_above : (atom : AtomValue) → IsStrictlyMoreGeneral Any (Of atom)
  pub pseudo_itself : IsVariant Any Any
