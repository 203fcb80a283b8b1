use Rattle.std.proofs.Common.{◌≡◌, ◌++◌, drop}
use Rattle.std.specs.Io.{StartsWith}
use Rattle.cnf_text.specs.ClauseText.{barred_text, clause_text}
use Rattle.cnf_text.proofs.clause.push_clause.Given as goal

-- What is printed and what is left give the whole.
abbrev pub invariant-loop-literal : goal.invariant-loop-literal
invariant-loop-literal l = record {
  printed : l.out.items ++ barred_text l.signature (drop l.literal-index l.others) ≡ l.fn.out.items ++ clause_text l.signature l.literals;
  kept : StartsWith l.out.items l.fn.out.items;
}
