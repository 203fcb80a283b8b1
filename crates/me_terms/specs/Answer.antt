-- The answer to a problem within bounds.
use Rattle.std.specs.Prelude.{◌≡◌, List, nat_le, if◌then◌else◌}
use Rattle.me_terms.specs.Measures.{list_weight}
use Rattle.me_terms.specs.Values.{ProblemValue, InstanceValue}
use Rattle.me_terms.specs.Context.{Context}
use Rattle.me_terms.specs.Grown.{start}
use Rattle.me_terms.specs.Outcome.{TreeOutcome, Closed, Sat, Met, HasOutcome}
use Rattle.me_terms.specs.declared.bounds.Bound.{Bound}
use Rattle.me_terms.specs.declared.bounds.Bound.TheVariants as bound
use Rattle.me_terms.specs.declared.bounds.Bounds.{Bounds}

-- What is answered: a list of instances, a context, or the bound that was met.
pub data AnswerValue : Type 0 where
  Unsatisfiable : List InstanceValue → AnswerValue
  Satisfiable : Context → AnswerValue
  GaveUp : Bound → AnswerValue

-- What is answered by an outcome. A list that weighs more than the list bound is not given.
abbrev pub answer_of : Bounds → TreeOutcome → AnswerValue
answer_of bounds (Sat context) = Satisfiable context
answer_of bounds (Closed list) = if nat_le (list_weight list) bounds.list then Unsatisfiable list else GaveUp bound.List
answer_of bounds (Met b) = GaveUp b

-- The answer: that of the outcome of the tree of the bounds' start.
abbrev pub HasAnswer : ProblemValue → Bounds → AnswerValue → Type 0
HasAnswer problem bounds reply =
    (outcome : TreeOutcome) × HasOutcome problem bounds (start bounds.start) outcome × (reply ≡ answer_of bounds outcome)
