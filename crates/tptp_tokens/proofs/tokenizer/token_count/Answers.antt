use Rattle.tptp_tokens.proofs.Counted.{one_more, all_counted}
use Rattle.tptp_tokens.proofs.tokenizer.token_count.Goals as goal

pub tokens-preserved : goal.tokens-preserved
tokens-preserved c = one_more _ _ _ _ _ c.tokens.invariant c.in-Some.ensures.some c.in-Some.ensures.shorter

pub returns : goal.returns
returns c = all_counted _ _ _ c.tokens.invariant c.in_default.ensures.none
