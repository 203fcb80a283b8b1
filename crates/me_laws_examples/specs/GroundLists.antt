-- Which lists of literals are ground instances, and which lists of clauses are refuted.
use Rattle.std.specs.Prelude.{true, false, [], ◌∷◌}
use Rattle.me_terms.specs.Values.{InstanceValue}
use Rattle.me_terms.specs.GroundInstances.{IsGroundInstance}
use Rattle.me_terms.specs.Refuted.{IsRefuted}
use Rattle.me_laws_examples.specs.Letters.{a, b, x0, p_of, q_of, literal}
use Rattle.me_laws_examples.specs.SmallAnswers.{p_of_all}

abbrev pub p_or_q : InstanceValue
p_or_q = record { clause = 0; literals = literal true (p_of a) ∷ literal true (q_of a) ∷ [] }

abbrev pub not_p : InstanceValue
not_p = record { clause = 1; literals = literal false (p_of a) ∷ [] }

abbrev pub not_q : InstanceValue
not_q = record { clause = 2; literals = literal false (q_of a) ∷ [] }

-- p(a) is a ground instance of p(X0); p(X0) is not, and neither is p(b) where b is no constant of the signature. The three clauses are refuted, and two of them are not.
pub record GroundLists : Type 0 where
  pub instance : IsGroundInstance p_of_all 0 (literal true (p_of a) ∷ [])
  pub not_ground : ¬ IsGroundInstance p_of_all 0 (literal true (p_of x0) ∷ [])
  pub not_of_signature : ¬ IsGroundInstance p_of_all 0 (literal true (p_of b) ∷ [])
  pub refuted : IsRefuted (p_or_q ∷ not_p ∷ not_q ∷ [])
  pub not_refuted : ¬ IsRefuted (p_or_q ∷ not_p ∷ [])
