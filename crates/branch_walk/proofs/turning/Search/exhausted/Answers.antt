use Rattle.std.proofs.Common.{◌∷◌, [], refl}
use Rattle.branch_walk.specs.Jobs.{turns_taken}
use Rattle.branch_walk.proofs.Visits.{extends_post}
use Rattle.branch_walk.proofs.turning.Search.exhausted.Goals as goal

pub returns-in-Ok-clause-visited : goal.returns-in-Ok-clause-visited
returns-in-Ok-clause-visited g c =
    let context = g.V.View.context c.args.branch.now in
    let list = c.args.self.now.bounds.now.list in (
      c.node_key-key.result ∷ [],
      extends_post c.node_key-key.result c.post.ensures.history,
      λ told. (
        record {
          next = c.requires.next;
          key_is = c.node_key-key.ensures;
          sated = c.in-Ok.ensures.sated;
          tally = λ before h. c.in-Ok.ensures.tally list before (turns_taken context) h;
        },
        refl,
        refl,
      ),
    )
