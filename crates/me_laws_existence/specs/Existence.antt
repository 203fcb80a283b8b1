-- What exists: solutions, next steps, outcomes and answers, or a proof that there is none.
use Rattle.std.specs.Prelude.{◌≡◌, ℕ, ◌≤◌, ◌⊎◌, List, Option}
use Rattle.me_terms.specs.Substitutions.{Family}
use Rattle.me_terms.specs.Values.{ProblemValue, EntryValue, InstanceValue}
use Rattle.me_terms.specs.Context.{Context}
use Rattle.me_terms.specs.Unifier.{Solves}
use Rattle.me_terms.specs.Next.{NextValue, IsNext}
use Rattle.me_terms.specs.Close.{IsClose, HasClose}
use Rattle.me_terms.specs.Assert.{HasAssert}
use Rattle.me_terms.specs.Split.{HasSplit}
use Rattle.me_terms.specs.Productive.{HasProductive}
use Rattle.me_terms.specs.Order.{IsLeastClose, IsLeastAssert, IsLeastSplit}
use Rattle.me_terms.specs.LeafList.{IsLeafList}
use Rattle.me_terms.specs.Grown.{IsGrown}
use Rattle.me_terms.specs.Outcome.{TreeOutcome, HasOutcome}
use Rattle.me_terms.specs.Answer.{AnswerValue, HasAnswer}
use Rattle.me_terms.specs.Deepening.{HasAnswerFrom}
use Rattle.me_terms.specs.declared.bounds.Bounds.{Bounds}
use Rattle.me_terms.specs.declared.atom.Literal.{Literal}

-- A clause's equations with the entries at given positions have a solution, or a proof that they have none.
abbrev pub SolvabilityIsDecided : Type 0
SolvabilityIsDecided =
    (context : Context) (literals : List Literal) (positions : List (Option ℕ)) → ((family : Family) × Solves context literals positions family) ⊎ (¬ ((family : Family) × Solves context literals positions family))

-- A context has a least candidate of each kind, or none of that kind; and it has a productive unifier, or none.
pub record HasLeastCandidates (problem : ProblemValue) (bounds : Bounds) (context : Context) : Type 0 where
  pub close : ((c : ℕ) × (tuple : List ℕ) × IsLeastClose problem context c tuple) ⊎ (¬ HasClose problem context)
  pub assert : ((e : EntryValue) × IsLeastAssert problem bounds context e) ⊎ (¬ HasAssert problem bounds context)
  pub split : ((l : Literal) × IsLeastSplit problem bounds context l) ⊎ (¬ HasSplit problem bounds context)
  pub productive : HasProductive problem context ⊎ (¬ HasProductive problem context)

abbrev pub CandidatesAreDecided : Type 0
CandidatesAreDecided = (problem : ProblemValue) (bounds : Bounds) (context : Context) → HasLeastCandidates problem bounds context

-- A context has a next step.
abbrev pub NextExists : Type 0
NextExists = (problem : ProblemValue) (bounds : Bounds) (context : Context) → (step : NextValue) × IsNext problem bounds context step

-- Where a clause and a tuple close a grown context, the leaf has a list.
abbrev pub LeafListExists : Type 0
LeafListExists = (problem : ProblemValue) (bounds : Bounds) (context : Context) (c : ℕ) (tuple : List ℕ) → IsGrown problem bounds context → IsClose problem context c tuple → (list : List InstanceValue) × IsLeafList problem context c tuple list

-- The tree of a grown context has an outcome.
abbrev pub OutcomeExists : Type 0
OutcomeExists = (problem : ProblemValue) (bounds : Bounds) (context : Context) → IsGrown problem bounds context → (outcome : TreeOutcome) × HasOutcome problem bounds context outcome

-- A problem has exactly one answer, whatever the bounds.
abbrev pub ExactlyOneAnswer : Type 0
ExactlyOneAnswer = (problem : ProblemValue) (bounds : Bounds) → (reply : AnswerValue) × HasAnswer problem bounds reply × ((other : AnswerValue) → HasAnswer problem bounds other → other ≡ reply)

-- With deepening from a depth that is at most the bounds' it has exactly one answer too.
abbrev pub ExactlyOneDeepenedAnswer : Type 0
ExactlyOneDeepenedAnswer = (problem : ProblemValue) (bounds : Bounds) (from : ℕ) → from ≤ bounds.depth → (reply : AnswerValue) × HasAnswerFrom problem bounds from reply × ((other : AnswerValue) → HasAnswerFrom problem bounds from other → other ≡ reply)

-- From the bounds' own depth on there is nothing to deepen: the answers are those without deepening.
abbrev pub DeepeningFromTheLastDepth : Type 0
DeepeningFromTheLastDepth = (problem : ProblemValue) (bounds : Bounds) (reply : AnswerValue) → (HasAnswerFrom problem bounds bounds.depth reply → HasAnswer problem bounds reply) × (HasAnswer problem bounds reply → HasAnswerFrom problem bounds bounds.depth reply)
