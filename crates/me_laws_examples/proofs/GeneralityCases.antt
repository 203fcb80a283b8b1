-- Which atoms are more general than which.
use Rattle.std.proofs.Common.{refl}
use Rattle.me_laws_examples.specs.Letters.{a, b, x0, x1, p, p_of, q_of}
use Rattle.me_laws_examples.specs.MeasuredTerms.{f}
use Rattle.me_laws_examples.specs.Generality.{Generality}
use Rattle.me_laws_examples.proofs.Short.{no_instance}
use Rattle.me_laws_examples.proofs.HiddenEntry.{first_then}

pub generality : Generality
unfolding first_then
generality = record {
  instance = (first_then (f x1 a) b, refl);
  one_variable_twice = λ g. no_instance (p x0 x0) (p x0 x1) refl g;
  constants_differ = λ g. no_instance (p_of a) (p_of b) refl g;
  common_instance = λ g. no_instance (p x0 a) (p b x0) refl g;
  other_predicate = λ g. no_instance (p_of x0) (q_of x0) refl g;
  renamed = ((first_then x1 x0, refl), (first_then x1 x0, refl));
  instance_is_no_variant = λ v. no_instance (p x0 x0) (p x0 x1) refl v.1;
  merged_is_stricter = ((λ x. x0, refl), λ g. no_instance (p x0 x0) (p x0 x1) refl g);
  not_the_other_way = λ s. no_instance (p x0 x0) (p x0 x1) refl s.0;
  variant_is_not_stricter = λ s. s.1 (first_then x1 x0, refl);
  beside = λ s. no_instance (p_of a) (p_of b) refl s.0;
  pseudo_above = λ atom. (tt, λ g. g);
  pseudo_itself = (tt, tt);
}
