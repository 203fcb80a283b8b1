use Rattle.std.proofs.Common.{◌≡◌, ◌∷◌, ◌++◌, drop}
use Rattle.std.specs.Io.{StartsWith}
use Rattle.tptp_tokens.specs.Quoted.{escaped}
use Rattle.cnf_text.proofs.label.push_quoted.Given as goal

-- What is printed and what is left give the whole.
abbrev pub invariant-loop-byte : goal.invariant-loop-byte
invariant-loop-byte l = record {
  printed : l.out.items ++ escaped l.quote (drop l.byte-index l.text) ≡ l.fn.out.items ++ l.quote ∷ escaped l.quote l.text;
  kept : StartsWith l.out.items l.fn.out.items;
}
