use Rattle.std.proofs.Common.{length}
use Rattle.tptp_lines.specs.ProgressViews.{progress}
use Rattle.tptp_lines.proofs.Reached.{ReadSoFar}
use Rattle.tptp_lines.proofs.read.read_lines.Given as goal

abbrev pub invariant-tokens : goal.invariant-tokens
invariant-tokens l = ReadSoFar l.bytes l.tokenizer (progress l.reader)

abbrev pub decreases-tokens : goal.decreases-tokens
decreases-tokens l = length l.tokenizer.bytes
