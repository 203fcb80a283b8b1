-- Laws of next steps, outcomes and answers: there is at most one of each, and an exhausted context is a model.
use Rattle.std.specs.Prelude.{◌≡◌, ℕ, List}
use Rattle.me_terms.specs.Values.{ProblemValue, InstanceValue}
use Rattle.me_terms.specs.Context.{Context, IsContext}
use Rattle.me_terms.specs.Contradictory.{IsConsistent}
use Rattle.me_terms.specs.Next.{NextValue, Exhausted, IsNext}
use Rattle.me_terms.specs.LeafList.{IsLeafList}
use Rattle.me_terms.specs.Outcome.{TreeOutcome, HasOutcome}
use Rattle.me_terms.specs.Answer.{AnswerValue, Satisfiable, HasAnswer}
use Rattle.me_terms.specs.Deepening.{HasAnswerFrom}
use Rattle.me_terms.specs.InducedModel.{IsModel}
use Rattle.me_terms.specs.declared.bounds.Bounds.{Bounds}

-- A context has at most one next step.
abbrev pub NextIsDetermined : Type 0
NextIsDetermined = (problem : ProblemValue) (bounds : Bounds) (context : Context) (s t : NextValue) → IsNext problem bounds context s → IsNext problem bounds context t → s ≡ t

-- A leaf that a clause and a tuple close has at most one list.
abbrev pub LeafListIsDetermined : Type 0
LeafListIsDetermined = (problem : ProblemValue) (context : Context) (c : ℕ) (tuple : List ℕ) (list other : List InstanceValue) → IsLeafList problem context c tuple list → IsLeafList problem context c tuple other → list ≡ other

-- The tree of a context has at most one outcome.
abbrev pub OutcomeIsDetermined : Type 0
OutcomeIsDetermined = (problem : ProblemValue) (bounds : Bounds) (context : Context) (outcome other : TreeOutcome) → HasOutcome problem bounds context outcome → HasOutcome problem bounds context other → outcome ≡ other

-- A problem within bounds has at most one answer.
abbrev pub AnswerIsDetermined : Type 0
AnswerIsDetermined = (problem : ProblemValue) (bounds : Bounds) (reply other : AnswerValue) → HasAnswer problem bounds reply → HasAnswer problem bounds other → reply ≡ other

-- With deepening from a depth it has at most one answer too.
abbrev pub DeepenedAnswerIsDetermined : Type 0
DeepenedAnswerIsDetermined = (problem : ProblemValue) (bounds : Bounds) (from : ℕ) (reply other : AnswerValue) → HasAnswerFrom problem bounds from reply → HasAnswerFrom problem bounds from other → reply ≡ other

-- An exhausted context is a model of all ground instances.
abbrev pub ExhaustedIsModel : Type 0
ExhaustedIsModel = (problem : ProblemValue) (bounds : Bounds) (context : Context) → IsContext context → IsNext problem bounds context Exhausted → IsModel problem context

-- The context of a Satisfiable answer is consistent, and a model of all ground instances.
abbrev pub SatisfiableIsModel : Type 0
SatisfiableIsModel = (problem : ProblemValue) (bounds : Bounds) (context : Context) → HasAnswer problem bounds (Satisfiable context) → IsContext context × IsConsistent context × IsModel problem context
