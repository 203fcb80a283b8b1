-- Problems of at most one clause, and their answers.
use Rattle.std.specs.Prelude.{true, List, [], ◌∷◌}
use Rattle.me_terms.specs.Values.{SignatureValue, ClauseValue, ProblemValue}
use Rattle.me_terms.specs.Grown.{start}
use Rattle.me_terms.specs.Answer.{HasAnswer, Unsatisfiable, Satisfiable, GaveUp}
use Rattle.me_terms.specs.declared.bounds.Bound.TheVariants as bound
use Rattle.me_terms.specs.declared.bounds.Bounds.{Bounds}
use Rattle.me_terms.specs.declared.bounds.Start.{Start}
use Rattle.me_terms.specs.declared.bounds.Start.TheVariants.{Negative, Positive}
use Rattle.me_terms.specs.declared.atom.Literal.{Literal}
use Rattle.me_laws_examples.specs.Letters.{x0, p_of, literal, word, usual_from}

abbrev pub names : SignatureValue
names = record { functions = record { label = word 97; arity = 0 } ∷ []; predicates = record { label = word 112; arity = 1 } ∷ [] }

-- the problem of clauses with these lists of literals
abbrev pub clause_of : List Literal → ClauseValue
clause_of literals = record { number = 1; label = word 99; literals = literals }

abbrev pub no_clauses : ProblemValue
no_clauses = record { clauses = []; signature = names; c0 = 0 }

abbrev pub empty_clause : ProblemValue
empty_clause = record { clauses = clause_of [] ∷ []; signature = names; c0 = 0 }

abbrev pub p_of_all : ProblemValue
p_of_all = record { clauses = clause_of (literal true (p_of x0) ∷ []) ∷ []; signature = names; c0 = 0 }

abbrev pub usual : Bounds
usual = usual_from Negative

-- p(X0) weighs 2
abbrev pub light : Start → Bounds
light begins = record { depth = 6; weight = 1; literals = 2000; list = 10000000; start = begins }

abbrev pub narrow : Bounds
narrow = record { depth = 6; weight = 1000; literals = 1; list = 10000000; start = Negative }

-- No clauses have a model by either start; the empty clause alone is unsatisfiable by itself. From the negative start p(X0) meets a weight of 1, and a context of one entry; the positive start is its model, where p(X0) is too heavy to be asserted.
pub record SmallAnswers : Type 0 where
  pub no_clauses_satisfiable : (begins : Start) → HasAnswer no_clauses (usual_from begins) (Satisfiable (start begins))
  pub empty_clause_refuted : (begins : Start) → HasAnswer empty_clause (usual_from begins) (Unsatisfiable (record { clause = 0; literals = [] } ∷ []))
  pub weight_met : HasAnswer p_of_all (light Negative) (GaveUp bound.Weight)
  pub positive_model : HasAnswer p_of_all (light Positive) (Satisfiable (start Positive))
  pub literals_met : HasAnswer p_of_all narrow (GaveUp bound.Literals)
