use Rattle.me_unify.proofs.Cut.{links_shrunk}
use Rattle.me_unify.proofs.links.Links.shrink.Goals as goal

pub returns-clause-forest : goal.returns-clause-forest
returns-clause-forest c = rw c.truncate.ensures.items (links_shrunk _ _ _ c.args.size c.requires.forest c.requires.within c.requires.from c.requires.to)
