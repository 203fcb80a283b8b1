use Rattle.std.proofs.Common.{[], ◌∷◌, map, refl, ap}
use Rattle.branch_core.specs.Parts as value
use Rattle.branch_core.specs.PartViews.{part_value}
use Rattle.branch_walk.proofs.StaysApart.{open_closed_off}
use Rattle.branch_core.specs.Pieces.{Sat}
use Rattle.branch_core.specs.declared.part.Part.TheVariants as part
use Rattle.branch_walk.proofs.Tallied.{grows, takes_sat}
use Rattle.branch_walk.proofs.tally.Tally.add_sat.Goals as goal

pub returns-clause-tally : goal.returns-clause-tally
returns-clause-tally g c n leaves turns h =
    let context = g.V.View.context c.args.branch.now in
    grows n c.args.self.now _ (Sat turns context ∷ []) refl (takes_sat n c.args.self.now.last turns (part.Sat c.in_ok-context.context) context (ap value.Sat c.in_ok-context.ensures) c.requires) (open_closed_off (map part_value c.args.self.now.parts.items) c.args.self.now.last c.requires) leaves h
