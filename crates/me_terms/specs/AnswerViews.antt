-- The program's next steps and answers as contracts see them.
use Rattle.me_terms.specs.Next.{NextValue}
use Rattle.me_terms.specs.Next as step
use Rattle.me_terms.specs.Answer.{AnswerValue}
use Rattle.me_terms.specs.Answer as reply
use Rattle.me_terms.specs.declared.answer.Next.{Next}
use Rattle.me_terms.specs.declared.answer.Next.TheVariants.{Close, Assert, Split, Exhausted, Bounded}
use Rattle.me_terms.specs.declared.answer.Answer.{Answer}
use Rattle.me_terms.specs.declared.answer.Answer.TheVariants.{Unsatisfiable, Satisfiable, GaveUp}

abbrev pub next_value : Next → NextValue
next_value (Close clause tuple) = step.Close clause tuple.items
next_value (Assert entry) = step.Assert entry
next_value (Split literal kind) = step.Split literal kind
next_value Exhausted = step.Exhausted
next_value (Bounded b) = step.Bounded b

abbrev pub answer_value : Answer → AnswerValue
answer_value (Unsatisfiable list) = reply.Unsatisfiable list.items
answer_value (Satisfiable context) = reply.Satisfiable context.items
answer_value (GaveUp b) = reply.GaveUp b
