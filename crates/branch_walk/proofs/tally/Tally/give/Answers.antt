use Rattle.std.proofs.Common.{◌≡◌, ◌++◌, ◌∷◌, [], arith}
use Rattle.branch_core.specs.declared.part.Part.TheVariants as part
use Rattle.branch_walk.proofs.Tallied.{gives, when_ok}
use Rattle.branch_walk.proofs.tally.Tally.give.Goals as goal

pub returns-clause-tally : goal.returns-clause-tally
returns-clause-tally c n leaves h =
    let old = c.settle.new.self in
    let room = c.settle.ensures.pushes.room in
    let pushed : c.push.new.self.items ≡ old.parts.items ++ part.Gift c.args.path ∷ [] = when_ok c.push.result _ c.push.ensures.ok (c.push.ensures.room (omega (arith, c.requires.room, room))).0 in
    gives n old _ c.args.path pushed c.settle.ensures.none leaves (c.settle.ensures.pieces n leaves h)
