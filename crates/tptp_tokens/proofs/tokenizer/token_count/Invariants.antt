use Rattle.std.proofs.Common.{length}
use Rattle.tptp_tokens.proofs.Counted.{Counted}
use Rattle.tptp_tokens.proofs.tokenizer.token_count.Given as goal

abbrev pub invariant-tokens : goal.invariant-tokens
invariant-tokens l = Counted l.bytes l.tokenizer l.count

abbrev pub decreases-tokens : goal.decreases-tokens
decreases-tokens l = length l.tokenizer.bytes
