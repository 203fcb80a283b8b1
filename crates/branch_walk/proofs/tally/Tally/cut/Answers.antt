use Rattle.std.proofs.Common.{◌∷◌, refl, sym, ◌∙◌}
use Rattle.branch_walk.specs.Tallies.{cuts}
use Rattle.branch_walk.proofs.Tallied.{grows, keeps_cuts, first_cuts}
use Rattle.branch_walk.proofs.tally.Tally.cut.Goals as goal

pub returns-then-takes_in_cuts-clause-tally : goal.returns-then-takes_in_cuts-clause-tally
returns-then-takes_in_cuts-clause-tally c n leaves turns later h =
    grows n c.args.self.now _ (cuts c.args.key (turns ∷ later)) refl (keeps_cuts n c.args.key c.args.self.now.last (turns ∷ later) c.requires.takes (sym c.takes_in_cuts.ensures ∙ c.if-takes_in_cuts.true)) (λ apart. apart) leaves h

pub returns-clause-tally : goal.returns-clause-tally
returns-clause-tally c n leaves turns later h =
    let all = c.settle.ensures.pieces n leaves h in
    first_cuts n _ c.args.key turns later refl leaves all.0 all.1 all.2 (c.settle.ensures.cut c.args.key h.apart c.requires.takes (sym c.takes_in_cuts.ensures ∙ c.if-takes_in_cuts.false))
