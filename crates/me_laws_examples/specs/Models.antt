-- In which of the two contexts in which a search can begin which clauses are true.
use Rattle.std.specs.Prelude.{true, false, [], ◌∷◌}
use Rattle.me_terms.specs.Values.{ProblemValue}
use Rattle.me_terms.specs.Grown.{start}
use Rattle.me_terms.specs.InducedModel.{IsModel}
use Rattle.me_terms.specs.declared.bounds.Start.TheVariants.{Negative, Positive}
use Rattle.me_laws_examples.specs.Letters.{x0, p_of, q_of, literal}
use Rattle.me_laws_examples.specs.AssertThenSplit.{names}
use Rattle.me_laws_examples.specs.SmallAnswers.{clause_of}
use Rattle.me_laws_examples.specs.LeftVariable.{p_and_not_p}

-- ~q(X)|p(X)
abbrev pub q_implies_p : ProblemValue
q_implies_p = record { clauses = clause_of (literal false (q_of x0) ∷ literal true (p_of x0) ∷ []) ∷ []; signature = names; c0 = 0 }

-- One true literal of each ground instance is enough, and every clause counts: p(X) is false from the negative start, and ~p(X) from the positive one.
pub record Models : Type 0 where
  pub one_is_enough : IsModel q_implies_p (start Positive)
  pub first_clause_counts : ¬ IsModel p_and_not_p (start Negative)
  pub second_clause_counts : ¬ IsModel p_and_not_p (start Positive)
