use Rattle.std.specs.Prelude.{ℕ, Vec}
use Rattle.std.specs.declared.alloc.Global.{Global}
use Rattle.darwin_cli.specs.Outcome.{IsAnswered}
use Rattle.darwin_cli.specs.Replies.{IsReply}
use Rattle.darwin_cli.proofs.Causes.{if_ok, answered_by}
use Rattle.darwin_cli.proofs.answer.text_alone.Goals as goal

pub returns-in-Ok-answer_alone-clause-answered : goal.returns-in-Ok-answer_alone-clause-answered
returns-in-Ok-answer_alone-clause-answered g c =
    let options = c.args.options.now in
    let old = c.args.source.now in
    let new = c.problem_of.new.source in
    let problem = c.in-Ok.problem in
    let P : Vec ℕ Global → Type 0 = λ text. IsReply options problem text.items in
    let Q : Vec ℕ Global → Type 0 = λ text. IsAnswered g.S.Source.left g.S.Source.given g.S.Source.ended g.S.Source.faults options old new text.items in
    if_ok c.text_of.result P Q (λ text reply. answered_by g.S.Source.left g.S.Source.given g.S.Source.ended g.S.Source.faults options old new problem text.items c.in-Ok.ensures.asked reply) c.text_of.ensures.text
