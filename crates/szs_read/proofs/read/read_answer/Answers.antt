use Rattle.std.proofs.Common.{◌+◌, refl}
use Rattle.szs_read.specs.Passes.{AreStuck, AreWhole, IsSomeAnswer}
use Rattle.szs_read.specs.Reads.{BeginsAnswer}
use Rattle.szs_read.proofs.Options.{none_is}
use Rattle.szs_read.proofs.Refusals.{refused_at, stuck_after, cause_of}
use Rattle.szs_read.proofs.Symbols.{if_some}
use Rattle.szs_read.proofs.read.read_answer.Goals as goal

pub returns-else-is_at_end-clause-cause : goal.returns-else-is_at_end-clause-cause
returns-else-is_at_end-clause-cause c =
    cause_of c.args.signature.now c.args.bytes.now c.refusal.result (c.read_claim.new.lines.passed + 1) c.refusal.ensures
    (refused_at c.args.signature.now c.args.bytes.now c.new-lines.result c.read_claim.new.lines (c.read_claim.new.lines.passed + 1) c.new-lines.ensures.0 c.new-lines.ensures.1 refl
    (stuck_after c.args.signature.now c.read_claim.new.signature c.in-Some.claim c.new-lines.result c.read_claim.new.lines
    (if_some (λ _. AreWhole (IsSomeAnswer c.args.signature.now) c.new-lines.result c.read_claim.new.lines) _ _ c.in-Some.is c.in_ok-claim.ensures.whole)
    (if_some (BeginsAnswer c.args.signature.now c.read_claim.new.signature c.new-lines.result.rest.now c.read_claim.new.lines.rest.now) _ _ c.in-Some.is c.in_ok-claim.ensures.answer)
    (c.is_at_end.ensures.some c.if-is_at_end.false)))

pub returns-in-None-clause-cause : goal.returns-in-None-clause-cause
returns-in-None-clause-cause c =
    cause_of c.args.signature.now c.args.bytes.now c.refusal-in-None.result (c.read_claim.new.lines.passed + 1) c.refusal-in-None.ensures
    (refused_at c.args.signature.now c.args.bytes.now c.new-lines.result c.read_claim.new.lines (c.read_claim.new.lines.passed + 1) c.new-lines.ensures.0 c.new-lines.ensures.1 refl
    (none_is (AreStuck (IsSomeAnswer c.args.signature.now) c.new-lines.result c.read_claim.new.lines) _ c.in-None.is c.in_ok-claim.ensures.stuck))
