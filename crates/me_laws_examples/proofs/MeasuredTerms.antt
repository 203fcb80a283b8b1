-- Measures, canonical forms and substitutions: each by computing.
use Rattle.std.proofs.Common.{refl}
use Rattle.me_laws_examples.specs.MeasuredTerms.{MeasuredTerms}

pub measured_terms : MeasuredTerms
measured_terms = record {
  depth_bare = refl;
  depth_constant = refl;
  depth_variable = refl;
  deep_first = refl;
  deep_last = refl;
  weight_bare = refl;
  weight_constant = refl;
  weight_variable = refl;
  weight_nested = refl;
  weight_of_none = refl;
  weight_of_list = refl;
  ground_bare = refl;
  ground = refl;
  not_ground_first = refl;
  not_ground_last = refl;
  variables = refl;
  renumbered = refl;
  sign_stays = refl;
  is_numbered = refl;
  ground_is_numbered = refl;
  not_from_zero = refl;
  not_the_next = refl;
  late_gap = refl;
  complement_negative = refl;
  complement_positive = refl;
  applied = refl;
  one_after_the_other = refl;
}
