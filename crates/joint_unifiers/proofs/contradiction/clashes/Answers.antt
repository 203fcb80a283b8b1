use Rattle.joint_unifiers.proofs.contradiction.clashes.Goals as goal

pub returns-in-Universal-Universal : goal.returns-in-Universal-Universal
returns-in-Universal-Universal c =
    rw (← c.entry.view_is, c.in-Universal-Universal.is-0, c.in-Universal-Universal.is-1) c.unifiable.ensures
