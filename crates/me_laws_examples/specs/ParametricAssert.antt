-- The clause ~p(X)|q(X), beside the parametric p(X0).
use Rattle.std.specs.Prelude.{true, false, [], ◌∷◌}
use Rattle.me_terms.specs.Values.{ProblemValue, EntryValue, Asserted}
use Rattle.me_terms.specs.Assert.{IsAssert}
use Rattle.me_terms.specs.declared.entry.Kind.TheVariants.{Parametric}
use Rattle.me_laws_examples.specs.Letters.{x0, p_of, q_of, literal, entry}
use Rattle.me_laws_examples.specs.AssertThenSplit.{names}
use Rattle.me_laws_examples.specs.SmallAnswers.{clause_of, usual}
use Rattle.me_laws_examples.specs.Sharpening.{beside, parametric_p}

abbrev pub p_implies_q : ProblemValue
p_implies_q = record { clauses = clause_of (literal false (p_of x0) ∷ literal true (q_of x0) ∷ []) ∷ []; signature = names; c0 = 0 }

abbrev pub parametric_q : EntryValue
parametric_q = entry true (q_of x0) Parametric (Asserted 0 1 (1 ∷ []))

-- What is asserted by a Parametric entry, and isn't ground, is Parametric.
abbrev pub AssertsParametric : Type 0
AssertsParametric = IsAssert p_implies_q usual (beside parametric_p) 0 1 (1 ∷ []) parametric_q
