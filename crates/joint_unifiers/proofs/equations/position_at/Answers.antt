use Rattle.std.proofs.Common.{◌<◌, ◌∙◌, arith}
use Rattle.joint_unifiers.proofs.Positions.{position_after}
use Rattle.joint_unifiers.proofs.equations.position_at.Goals as goal

pub returns-else-place-skipped-2 : goal.returns-else-place-skipped-2
returns-else-place-skipped-2 c =
    let later : c.in-Some.skipped < c.args.place = omega arith in
    position_after _ _ c.in-Some.skipped c.args.place _ c.in-Some.is c.requires.skip c.requires.within later (c.copied-else-place-skipped-2.ensures ∙ c.get-else-place-skipped-2.ensures.item)
