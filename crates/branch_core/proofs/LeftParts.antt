-- The parts that are left in a loop over references to parts.
use Rattle.std.proofs.Common.{◌≡◌, ℕ, ◌+◌, ◌<◌, List, ◌∷◌, length, get_or, drop, sym, ap, ◌∙◌}
use Rattle.std.specs.Borrow.{Bor}
use Rattle.std.proofs.lemmas.List.{drop_more}
use Rattle.branch_core.specs.PartViews.{part_value, part_values}
use Rattle.branch_core.specs.declared.part.Part.{Part}

pub left_parts : (parts : List (Bor Part)) (k : ℕ) (p : Bor Part) → k < length parts → p ≡ get_or parts k p → part_values (drop k parts) ≡ part_value p.now ∷ part_values (drop (k + 1) parts)
left_parts parts k p below is = ap part_values (drop_more parts k p below ∙ ap (λ (q : Bor Part). q ∷ drop (k + 1) parts) (sym is))
