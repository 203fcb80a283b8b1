-- The text of a summary, which tells the answer to a problem by its size.
use Rattle.std.specs.Prelude.{◌≡◌, ◌⊎◌, ℕ, zero, suc, List, ◌++◌, codes, decimal, length}
use Rattle.me_terms.specs.Terms.{AtomValue}
use Rattle.me_terms.specs.Values.{EntryValue, ProblemValue}
use Rattle.me_terms.specs.Context.{Context, IsVisible}
use Rattle.me_terms.specs.declared.answer.Answer.{Answer}
use Rattle.me_terms.specs.declared.answer.Answer.TheVariants.{Unsatisfiable, Satisfiable, GaveUp}
use Rattle.me_terms.specs.declared.atom.Pattern.TheVariants.{Of}
use Rattle.szs_print.specs.AnswerText.{gave_up_text}
use Rattle.szs_print.specs.StatusText.{status_line}

-- The model's text has a line for position k: the entry there is visible, and it is not the pseudo-literal.
abbrev pub IsShown : Context → ℕ → Type 0
IsShown context k = (e : EntryValue) × (a : AtomValue) × IsVisible context k e × (e.atom ≡ Of a)

-- The model's text has so many lines for the first n positions.
abbrev pub IsShownCount : Context → ℕ → ℕ → Type 0
IsShownCount context zero count = count ≡ 0
IsShownCount context (suc n) count =
    (before : ℕ) × IsShownCount context n before × ((IsShown context n × (count ≡ suc before)) ⊎ ((IsShown context n → ⊥) × (count ≡ before)))

-- The lines with the number of clauses and the size of the answer.
abbrev pub size_lines : ℕ → ℕ → List ℕ
size_lines clauses size = codes "% clauses " ++ decimal clauses ++ codes "\n% size " ++ decimal size ++ codes "\n"

-- The size is the number of instances of a refutation, and of the lines of a model; where the search gave up it is 0.
abbrev pub IsSummary : List ℕ → ProblemValue → Answer → List ℕ → Type 0
IsSummary name problem (Unsatisfiable list) text =
    text ≡ status_line (codes "Unsatisfiable") name ++ size_lines (length problem.clauses) (length list.items)
IsSummary name problem (Satisfiable context) text =
    (size : ℕ) × IsShownCount context.items (length context.items) size × (text ≡ status_line (codes "Satisfiable") name ++ size_lines (length problem.clauses) size)
IsSummary name problem (GaveUp b) text = text ≡ gave_up_text name b ++ size_lines (length problem.clauses) 0
