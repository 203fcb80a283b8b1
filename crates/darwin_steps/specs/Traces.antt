-- What a walk writes, from its begin to its end.
use Rattle.std.specs.Prelude.{◌≡◌, ◌⊎◌, Bool, true, false, ℕ, List, [], ◌++◌, codes}
use Rattle.me_terms.specs.Values.{ProblemValue}
use Rattle.me_terms.specs.Context.{Context}
use Rattle.me_terms.specs.Grown.{start}
use Rattle.me_terms.specs.declared.bounds.Bounds.{Bounds}
use Rattle.darwin_steps.specs.Told.{IsTold}

-- The text is what is told of the steps that lead from the bounds' start to a context, in their order; true where the walk goes on from there.
pub data IsTrace (problem : ProblemValue) (bounds : Bounds) : Bool → Context → List ℕ → Type 0 where
  begun : IsTrace problem bounds true (start bounds.start) []
  went_on : {old new : Context} {goes_on : Bool} {text lines : List ℕ} → IsTrace problem bounds true old text → IsTold problem bounds old goes_on new lines → IsTrace problem bounds goes_on new (text ++ lines)

-- The steps up to the end of the search.
abbrev pub IsWholeTrace : ProblemValue → Bounds → List ℕ → Type 0
IsWholeTrace problem bounds text = (end : Context) × IsTrace problem bounds false end text

-- The first steps of a search, and a line that says that they are not all.
abbrev pub IsCutTrace : ProblemValue → Bounds → List ℕ → Type 0
IsCutTrace problem bounds text =
    (end : Context) × (steps : List ℕ) × IsTrace problem bounds true end steps × (text ≡ steps ++ codes "more steps follow\n")

-- All steps of the search, or the first ones.
abbrev pub IsWalkText : ProblemValue → Bounds → List ℕ → Type 0
IsWalkText problem bounds text = IsWholeTrace problem bounds text ⊎ IsCutTrace problem bounds text
