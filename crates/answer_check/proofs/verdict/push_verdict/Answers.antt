use Rattle.std.proofs.lemmas.Result.{on_ok_weaker}
use Rattle.answer_check.proofs.VerdictTexts.{satisfied_text}
use Rattle.answer_check.proofs.verdict.push_verdict.Goals as goal

pub returns-in_ok-extend_from_slice-in-Satisfied : goal.returns-in_ok-extend_from_slice-in-Satisfied
returns-in_ok-extend_from_slice-in-Satisfied c =
    on_ok_weaker c.push_trues.result
    (λ put. satisfied_text c.args.signature.now c.args.verdict.now c.in-Satisfied.trues c.as_slice.result.now c.args.out.now.items c.extend_from_slice-in-Satisfied.new.self.items c.push_trues.new.out.items
    c.in-Satisfied.is c.as_slice.ensures c.in_ok-extend_from_slice-in-Satisfied.ensures.items put)
    c.push_trues.ensures
