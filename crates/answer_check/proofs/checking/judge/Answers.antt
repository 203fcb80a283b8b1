use Rattle.std.proofs.Common.{arith}
use Rattle.answer_check.proofs.Sizes.{few_literals}
use Rattle.answer_check.proofs.checking.judge.Goals as goal

pub judge_claim-requires-clause-few : goal.judge_claim-requires-clause-few
judge_claim-requires-clause-few c = few_literals _ _ c.args.bytes.now c.in-Ok.claim (omega (arith, c.requires.few)) c.in-Ok.ensures.answer
