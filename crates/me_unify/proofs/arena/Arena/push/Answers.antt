use Rattle.me_unify.proofs.MoreNodes.{arena_push, arena_same, grown_push, last_push}
use Rattle.me_unify.proofs.Indexed.{put_back}
use Rattle.me_unify.proofs.arena.Arena.push.Goals as goal

pub returns-in-Ok-clause-arena : goal.returns-in-Ok-clause-arena
returns-in-Ok-clause-arena c =
    rw c.in_ok-push.ensures.ok (arena_push c.args.self.now.nodes c.args.node c.args.self.now.links c.grow.new.self c.requires.arena c.grow.ensures.forest c.in-Ok.ensures.ok c.grow.ensures.froms c.grow.ensures.tos c.requires.room c.requires.fresh)

pub returns-in-Ok-clause-grown : goal.returns-in-Ok-clause-grown
returns-in-Ok-clause-grown c = rw c.in_ok-push.ensures.ok (grown_push c.args.self.now.nodes c.args.node)

pub returns-in-Ok-clause-at : goal.returns-in-Ok-clause-at
returns-in-Ok-clause-at c = rw (c.in_ok-push.ensures.ok, c.len-x.ensures) (last_push c.args.self.now.nodes c.args.node)

pub returns-in-Err-clause-arena : goal.returns-in-Err-clause-arena
returns-in-Err-clause-arena c =
    let back = put_back c.args.self.now.nodes c.push.new.self c.truncate.new.self c.args.node c.len-x.result c.in_ok-push.ensures.ok c.len-x.ensures c.truncate.ensures in
    rw back (arena_same c.args.self.now.nodes c.args.self.now.links c.grow.new.self c.requires.arena c.grow.ensures.forest c.in-Err.ensures.err c.grow.ensures.froms c.grow.ensures.tos)

pub returns-in-Err-clause-grown : goal.returns-in-Err-clause-grown
returns-in-Err-clause-grown c =
    let back = put_back c.args.self.now.nodes c.push.new.self c.truncate.new.self c.args.node c.len-x.result c.in_ok-push.ensures.ok c.len-x.ensures c.truncate.ensures in
    rw back (λ x v at. at)
