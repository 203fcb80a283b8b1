-- The clauses p(X) and ~p(X), where c0 is b.
use Rattle.std.specs.Prelude.{true, false, [], ◌∷◌}
use Rattle.me_terms.specs.Values.{ProblemValue}
use Rattle.me_terms.specs.Close.{IsClose}
use Rattle.me_terms.specs.LeafList.{IsLeafList}
use Rattle.me_laws_examples.specs.Letters.{b, x0, p_of, literal}
use Rattle.me_laws_examples.specs.AssertThenSplit.{names}
use Rattle.me_laws_examples.specs.SmallAnswers.{clause_of}
use Rattle.me_laws_examples.specs.QueueOrder.{instance_of}
use Rattle.me_laws_examples.specs.Sharpening.{beside, universal_p}

abbrev pub p_and_not_p : ProblemValue
p_and_not_p = record { clauses = clause_of (literal true (p_of x0) ∷ []) ∷ clause_of (literal false (p_of x0) ∷ []) ∷ []; signature = names; c0 = 1 }

-- The unifier leaves a variable, which is read as b in the closing instance ~p(b), and so p(b) is asked for.
pub record LeftVariableIsRead : Type 0 where
  pub closes : IsClose p_and_not_p (beside universal_p) 1 (1 ∷ [])
  pub listed : IsLeafList p_and_not_p (beside universal_p) 1 (1 ∷ []) (instance_of 1 (literal false (p_of b) ∷ []) ∷ instance_of 0 (literal true (p_of b) ∷ []) ∷ [])
