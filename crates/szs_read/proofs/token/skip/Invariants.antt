use Rattle.std.proofs.Common.{◌≤◌, List, length, drop}
use Rattle.tptp_tokens.specs.Tokens.{TokenValue}
use Rattle.szs_read.specs.LineTokens.{AreLeft}
use Rattle.szs_read.proofs.token.skip.Given as goal

abbrev pub invariant-tokens : goal.invariant-tokens
invariant-tokens l = record {
  shorter : length l.tokens.bytes ≤ length l.initial.tokens.bytes;
  left : (ts : List TokenValue) → AreLeft l.initial.tokens.bytes ts → AreLeft l.tokens.bytes (drop l._passed ts);
}
