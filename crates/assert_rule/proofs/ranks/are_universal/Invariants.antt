use Rattle.std.proofs.Common.{◌≡◌, true, take, slice_get}
use Rattle.std.specs.List.{list_all}
use Rattle.me_terms.specs.Assert.{uses_universal}
use Rattle.assert_rule.proofs.ranks.are_universal.Given as goal

-- The entries at the positions so far are Universal.
abbrev pub invariant-loop-k : goal.invariant-loop-k
invariant-loop-k g l =
    list_all (λ k. uses_universal (slice_get (g.V.View.context l.view) k)) (take l.k-index l.k-items) ≡ true
