-- Which texts tell the answer to a problem. Only the private calls speak of them.
use Rattle.std.specs.Prelude.{ℕ, List}
use Rattle.me_terms.specs.Values.{ProblemValue}
use Rattle.me_terms.specs.AnswerViews.{answer_value}
use Rattle.me_terms.specs.declared.answer.Answer.{Answer}
use Rattle.darwin_options.specs.declared.options.Options.{Options}
use Rattle.darwin_cli.specs.Outcome.{IsSure, IsTextFor}

-- The text is that of the answer to the problem, or of its summary, as the options ask.
abbrev pub IsReply : Options → ProblemValue → List ℕ → Type 0
IsReply options problem text =
    (answer : Answer) × IsSure problem options.bounds options.from (answer_value answer) × IsTextFor options.make options.name.items problem answer text
