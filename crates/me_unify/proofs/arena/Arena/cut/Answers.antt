use Rattle.me_unify.specs.Marks.{IsCutBack}
use Rattle.me_unify.proofs.Cut.{arena_cut, cut_by}
use Rattle.me_unify.proofs.arena.Arena.cut.Goals as goal

pub returns-clause-arena : goal.returns-clause-arena
returns-clause-arena c =
    let cut : IsCutBack c.args.self.now.links c.args.links c.shrink.new.self = cut_by c.args.self.now.links c.undo.new.self c.shrink.new.self c.args.links c.undo.ensures.less c.undo.ensures.mark c.shrink.ensures.froms c.shrink.ensures.tos in
    rw c.truncate.ensures (arena_cut c.args.self.now.nodes c.args.self.now.links c.shrink.new.self c.args.nodes c.args.links c.requires.arena c.requires.mark cut c.shrink.ensures.forest c.shrink.ensures.size)
