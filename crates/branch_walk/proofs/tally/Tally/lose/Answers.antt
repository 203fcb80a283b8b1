use Rattle.std.proofs.Common.{◌∷◌, map, refl, sym, ◌∙◌}
use Rattle.branch_core.specs.PartViews.{part_value}
use Rattle.branch_walk.specs.Tallies.{losses}
use Rattle.branch_walk.proofs.StaysApart.{loss_closed_off}
use Rattle.branch_walk.proofs.Tallied.{grows, sat_losses, loses}
use Rattle.branch_walk.proofs.tally.Tally.lose.Goals as goal

pub returns-then-is_sated-clause-tally : goal.returns-then-is_sated-clause-tally
returns-then-is_sated-clause-tally c n leaves turns later h =
    grows n c.args.self.now _ (losses (turns ∷ later)) refl (sat_losses n c.args.self.now.last (turns ∷ later) (sym c.is_sated.ensures ∙ c.if-is_sated.true)) (λ apart. apart) leaves h

pub returns-clause-tally : goal.returns-clause-tally
returns-clause-tally c n leaves turns later h =
    grows n c.args.self.now _ (losses (turns ∷ later)) refl (loses n c.args.self.now.last turns later (sym c.is_sated.ensures ∙ c.if-is_sated.false)) (loss_closed_off (map part_value c.args.self.now.parts.items) c.args.self.now.last c.requires) leaves h
