use Rattle.std.proofs.Common.{◌<◌, length, arith}
use Rattle.joint_unifiers.proofs.Measuring.{measure_at}
use Rattle.joint_unifiers.proofs.unifier.Unifier.ground.Goals as goal

pub index-requires : goal.index-requires
index-requires c =
    let within : c.args.place < length c.self.inside.literals.now.items = rw (← c.self.view_is) at c.requires in
    omega (arith, within, c.self.invariant.measured.each_place)

pub returns : goal.returns
returns c =
    let within : c.args.place < length c.self.inside.literals.now.items = rw (← c.self.view_is) at c.requires in
    rw (← c.self.view_is) (λ f l general at. (measure_at _ _ _ c.args.place _ c.self.invariant within c.index.ensures f l general at).ground)
