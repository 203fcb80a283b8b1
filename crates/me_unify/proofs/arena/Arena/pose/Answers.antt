use Rattle.std.proofs.Common.{rules}
use Rattle.me_unify.proofs.Cut.{mark_before, back_by}
use Rattle.me_unify.proofs.arena.Arena.pose.Goals as goal

pub cut-requires-clause-mark : goal.cut-requires-clause-mark
cut-requires-clause-mark c =
    mark_before c.args.self.now.nodes c.try_pose.new.self.nodes c.args.self.now.links c.try_pose.new.self.links c.len-nodes.result c.len-links.result c.requires.arena c.try_pose.ensures.grown c.try_pose.ensures.more (search (rules, c.len-nodes.ensures)) (search (rules, c.len-links.ensures))

pub cut-requires-in-Err-clause-mark : goal.cut-requires-in-Err-clause-mark
cut-requires-in-Err-clause-mark c =
    mark_before c.args.self.now.nodes c.try_pose.new.self.nodes c.args.self.now.links c.try_pose.new.self.links c.len-nodes.result c.len-links.result c.requires.arena c.try_pose.ensures.grown c.try_pose.ensures.more (search (rules, c.len-nodes.ensures)) (search (rules, c.len-links.ensures))

pub returns-in-Ok-None-clause-none : goal.returns-in-Ok-None-clause-none
returns-in-Ok-None-clause-none c z = c.in-Ok-None.ensures.none c.in-Ok-None.field-0-is

pub returns-in-Ok-None-clause-kept : goal.returns-in-Ok-None-clause-kept
returns-in-Ok-None-clause-kept c z =
    back_by c.args.self.now.nodes c.try_pose.new.self.nodes _ c.args.self.now.links c.try_pose.new.self.links _ c.len-nodes.result c.len-links.result c.try_pose.ensures.grown c.try_pose.ensures.more (search (rules, c.len-nodes.ensures)) (search (rules, c.len-links.ensures)) c.cut.ensures.nodes c.cut.ensures.links

pub returns-in-Err-clause-err : goal.returns-in-Err-clause-err
returns-in-Err-clause-err c =
    back_by c.args.self.now.nodes c.try_pose.new.self.nodes _ c.args.self.now.links c.try_pose.new.self.links _ c.len-nodes.result c.len-links.result c.try_pose.ensures.grown c.try_pose.ensures.more (search (rules, c.len-nodes.ensures)) (search (rules, c.len-links.ensures)) c.cut-in-Err.ensures.nodes c.cut-in-Err.ensures.links
