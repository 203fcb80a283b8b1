use Rattle.std.proofs.Common.{[], ◌∷◌, map, refl, sym, ◌∙◌}
use Rattle.branch_core.specs.PartViews.{part_value}
use Rattle.branch_core.specs.Pieces.{Bounded}
use Rattle.branch_walk.proofs.StaysApart.{open_closed_off}
use Rattle.branch_walk.proofs.Tallied.{grows, keeps_bound, takes_bound}
use Rattle.branch_walk.proofs.tally.Tally.add_bound.Goals as goal

pub returns-then-is_met-clause-tally : goal.returns-then-is_met-clause-tally
returns-then-is_met-clause-tally c n leaves =
    grows n c.args.self.now _ (Bounded c.args.bound ∷ []) refl (keeps_bound n c.args.self.now.last c.args.bound (sym c.is_met.ensures ∙ c.if-is_met.true)) (λ apart. apart) leaves

pub returns-clause-tally : goal.returns-clause-tally
returns-clause-tally c n leaves =
    grows n c.args.self.now _ (Bounded c.args.bound ∷ []) refl (takes_bound n c.args.self.now.last c.args.bound c.requires (sym c.is_met.ensures ∙ c.if-is_met.false)) (open_closed_off (map part_value c.args.self.now.parts.items) c.args.self.now.last c.requires) leaves
