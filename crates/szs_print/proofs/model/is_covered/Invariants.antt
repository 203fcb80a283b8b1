use Rattle.std.proofs.Common.{◌≡◌, ℕ, ◌<◌, Some, slice_get}
use Rattle.me_terms.specs.Context.{Covers}
use Rattle.me_terms.specs.Values.{EntryValue}
use Rattle.szs_print.proofs.model.is_covered.Given as goal

-- No later entry so far covers the entry.
abbrev pub invariant-loop-universal : goal.invariant-loop-universal
invariant-loop-universal l =
    (j : ℕ) (e : EntryValue) → j < l.universal-index → slice_get l.later j ≡ Some e → Covers e l.entry → ⊥
