-- What is printed of an answer is determined.
use Rattle.std.specs.Prelude.{◌≡◌, ℕ, List}
use Rattle.me_terms.specs.Values.{ProblemValue}
use Rattle.me_terms.specs.AnswerViews.{answer_value}
use Rattle.me_terms.specs.declared.answer.Answer.{Answer}
use Rattle.szs_print.specs.AnswerText.{IsAnswerText}
use Rattle.szs_print.specs.SummaryText.{IsSummary}

-- Of one problem and under one name, answers with one value have one text.
abbrev pub AnswerTextIsDetermined : Type 0
AnswerTextIsDetermined =
    (name : List ℕ) (problem : ProblemValue) (answer other : Answer) (text same : List ℕ) → answer_value answer ≡ answer_value other
    → IsAnswerText name problem answer text → IsAnswerText name problem other same → text ≡ same

-- And they have one summary.
abbrev pub SummaryIsDetermined : Type 0
SummaryIsDetermined =
    (name : List ℕ) (problem : ProblemValue) (answer other : Answer) (text same : List ℕ) → answer_value answer ≡ answer_value other
    → IsSummary name problem answer text → IsSummary name problem other same → text ≡ same
