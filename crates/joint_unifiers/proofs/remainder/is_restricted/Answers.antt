use Rattle.joint_unifiers.proofs.remainder.is_restricted.Goals as goal

pub returns-in-Parametric : goal.returns-in-Parametric
returns-in-Parametric c u general =
    rw (← c.entry.view_is, c.in-Parametric.is, c.in-Of.is, ← c.atom.view_is) (c.binds_among.ensures u general)
