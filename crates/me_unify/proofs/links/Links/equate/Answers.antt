use Rattle.std.proofs.Common.{length, arith}
use Rattle.me_unify.proofs.Steps.{closed_kept, longer_back}
use Rattle.me_unify.proofs.links.Links.equate.Goals as goal

pub returns-in-Ok-false-clause-closed : goal.returns-in-Ok-false-clause-closed
returns-in-Ok-false-clause-closed c =
    let back = longer_back c.args.self.now c.try_equate.new.self c.undo.new.self c.try_equate.ensures.more c.undo.ensures.less (omega (arith, c.undo.ensures.mark, c.len-mark.ensures)) in
    λ k p q lt. closed_kept c.args.nodes.now c.args.self.now c.undo.new.self (length c.args.self.now.froms.items) back (omega arith) c.requires.closed k p q (omega (arith, c.undo.ensures.mark, c.len-mark.ensures))

pub returns-in-Err-clause-closed : goal.returns-in-Err-clause-closed
returns-in-Err-clause-closed c =
    let back = longer_back c.args.self.now c.try_equate.new.self c.undo-in-Err.new.self c.try_equate.ensures.more c.undo-in-Err.ensures.less (omega (arith, c.undo-in-Err.ensures.mark, c.len-mark.ensures)) in
    λ k p q lt. closed_kept c.args.nodes.now c.args.self.now c.undo-in-Err.new.self (length c.args.self.now.froms.items) back (omega arith) c.requires.closed k p q (omega (arith, c.undo-in-Err.ensures.mark, c.len-mark.ensures))
