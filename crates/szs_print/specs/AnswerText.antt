-- The text of an answer.
use Rattle.std.specs.Prelude.{◌≡◌, ℕ, List, ◌++◌, codes}
use Rattle.me_terms.specs.Values.{ProblemValue}
use Rattle.me_terms.specs.declared.answer.Answer.{Answer}
use Rattle.me_terms.specs.declared.answer.Answer.TheVariants.{Unsatisfiable, Satisfiable, GaveUp}
use Rattle.me_terms.specs.declared.bounds.Bound.{Bound}
use Rattle.me_terms.specs.declared.bounds.Bound.TheVariants.{Depth, Weight, Literals, List as ListBound}
use Rattle.szs_print.specs.ModelText.{IsModelText}
use Rattle.szs_print.specs.RefutationText.{refutation_text}
use Rattle.szs_print.specs.StatusText.{status_line, reason_line}

abbrev pub bound_text : Bound → List ℕ
bound_text Depth = codes "depth"
bound_text Weight = codes "weight"
bound_text Literals = codes "literals"
bound_text ListBound = codes "list"

abbrev pub gave_up_text : List ℕ → Bound → List ℕ
gave_up_text name b = status_line (codes "GaveUp") name ++ reason_line (bound_text b)

-- The text of an answer to a problem, under the problem's name.
abbrev pub IsAnswerText : List ℕ → ProblemValue → Answer → List ℕ → Type 0
IsAnswerText name problem (Unsatisfiable list) text = text ≡ refutation_text name problem list.items
IsAnswerText name problem (Satisfiable context) text = IsModelText name problem.signature context.items text
IsAnswerText name problem (GaveUp b) text = text ≡ gave_up_text name b
