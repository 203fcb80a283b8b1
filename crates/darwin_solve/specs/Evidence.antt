-- What comes with an answer.
use Rattle.std.specs.Prelude.{◌≡◌, ◌≤◌}
use Rattle.std.specs.List.{All}
use Rattle.me_terms.specs.Measures.{list_weight}
use Rattle.me_terms.specs.Values.{ProblemValue}
use Rattle.me_terms.specs.Context.{IsContext}
use Rattle.me_terms.specs.Known.{IsKnownInstance, IsKnownContext}
use Rattle.me_terms.specs.Contradictory.{IsConsistent}
use Rattle.me_terms.specs.InducedModel.{IsModel}
use Rattle.me_terms.specs.Answer.{AnswerValue, Unsatisfiable, Satisfiable, GaveUp}
use Rattle.me_terms.specs.declared.bounds.Bound.TheVariants as bound
use Rattle.me_terms.specs.declared.bounds.Bounds.{Bounds}
use Rattle.me_laws_refutation.specs.Refutation.{ClosedIsRefutedBy}

-- With Unsatisfiable comes a list of ground instances of the problem's clauses that no choice of truth values makes true, within the list bound.
abbrev pub HasRefutation : ProblemValue → Bounds → AnswerValue → Type 0
HasRefutation problem bounds (Unsatisfiable list) = ClosedIsRefutedBy problem list × (list_weight list ≤ bounds.list)
HasRefutation problem bounds (Satisfiable context) = Unit {0}
HasRefutation problem bounds (GaveUp b) = Unit {0}

-- With Satisfiable comes a consistent context that is a model of the problem.
abbrev pub HasModel : ProblemValue → AnswerValue → Type 0
HasModel problem (Unsatisfiable list) = Unit {0}
HasModel problem (Satisfiable context) = IsContext context × IsConsistent context × IsModel problem context
HasModel problem (GaveUp b) = Unit {0}

-- Only the list can be too heavy.
abbrev pub MeetsOnlyList : AnswerValue → Type 0
MeetsOnlyList (Unsatisfiable list) = Unit {0}
MeetsOnlyList (Satisfiable context) = Unit {0}
MeetsOnlyList (GaveUp b) = b ≡ bound.List

-- What is answered speaks of the problem's clauses and symbols alone.
abbrev pub IsOverProblem : ProblemValue → AnswerValue → Type 0
IsOverProblem problem (Unsatisfiable list) = All (IsKnownInstance problem) list
IsOverProblem problem (Satisfiable context) = IsKnownContext problem.signature context
IsOverProblem problem (GaveUp b) = Unit {0}
