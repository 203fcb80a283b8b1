use Rattle.std.proofs.Common.{◌≤◌, ◌+◌, List, length}
use Rattle.std.specs.List.{AllByRecursion}
use Rattle.tptp_tokens.specs.Tokens.{TokenValue}
use Rattle.szs_read.specs.LineTokens.{AreLeft}
use Rattle.szs_read.specs.RowItems.{IsItem, row_value}
use Rattle.szs_read.proofs.RowRuns.{StillLeft}
use Rattle.szs_read.proofs.row.read_row.Given as goal

abbrev pub invariant-tokens : goal.invariant-tokens
invariant-tokens l = record {
  items : AllByRecursion IsItem l.row.items.items;
  count : length l.row.items.items + length l.tokens.bytes ≤ length l.initial.tokens.bytes;
  ran : (ts : List TokenValue) → AreLeft l.initial.tokens.bytes ts → StillLeft l.tokens.bytes ts (row_value l.row);
}

abbrev pub decreases-tokens : goal.decreases-tokens
decreases-tokens l = length l.tokens.bytes
