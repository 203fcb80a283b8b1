use Rattle.std.proofs.Common.{◌≡◌, ℕ, List, ◌++◌}
use Rattle.szs_print.specs.ModelText.{IsTextOf}
use Rattle.szs_print.proofs.model.push_entries.Given as goal

-- The text at the positions so far is printed.
abbrev pub invariant-loop-k : goal.invariant-loop-k
invariant-loop-k l =
    (text : List ℕ) × IsTextOf l.signature l.entries l.k text × (l.out.items ≡ l.fn.out.items ++ text)
