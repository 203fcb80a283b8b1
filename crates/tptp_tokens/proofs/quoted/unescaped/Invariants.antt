use Rattle.std.proofs.Common.{◌≡◌, ◌++◌, drop}
use Rattle.tptp_tokens.specs.Quoted.{unescaped_from, unescaped}
use Rattle.tptp_tokens.proofs.quoted.unescaped.Given as goal

-- the text so far, and that of what is left, are the text of all
abbrev pub invariant-bytes : goal.invariant-bytes
invariant-bytes l = l.text.items ++ unescaped_from l.pending (drop l.byte-index l.written) ≡ unescaped l.written
