use Rattle.std.proofs.Common.{List, drop, subst, arith}
use Rattle.tptp_tokens.specs.Tokens.{TokenValue}
use Rattle.szs_read.specs.LineTokens.{AreLeft}
use Rattle.szs_read.proofs.Advances.{drop_on}
use Rattle.szs_read.proofs.Options.{no_longer}
use Rattle.szs_read.proofs.token.skip.Goals as goal

pub tokens-preserved : goal.tokens-preserved
tokens-preserved c = record {
  shorter = omega (arith, no_longer _ _ _ c.next_token.ensures.shorter c.next_token.ensures.none, c.tokens.invariant.shorter);
  left = λ ts h. subst (λ (v : List TokenValue). AreLeft c.next_token.new.tokens.bytes v) (drop_on c.tokens._passed ts) (c.next_token.ensures.next (drop c.tokens._passed ts) (c.tokens.invariant.left ts h)).1;
}
