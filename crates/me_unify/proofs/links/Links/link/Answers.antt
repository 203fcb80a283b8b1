use Rattle.std.proofs.Common.{rules, ◌≡◌, ◌++◌, ◌∷◌, [], length}
use Rattle.me_unify.proofs.Forest.{links_more, respects_more, alike_more}
use Rattle.me_unify.proofs.links.Links.link.Goals as goal

pub returns-clause-forest : goal.returns-clause-forest
returns-clause-forest c =
    let fe : c.push_reserved.new.self.items ≡ c.args.self.now.froms.items ++ c.args.a ∷ [] = cc in
    let te : c.push_reserved-2.new.self.items ≡ c.args.self.now.tos.items ++ c.args.b ∷ [] = cc in
    let k : c.len-k.result ≡ length c.args.self.now.froms.items = search (rules, c.reserve.ensures) in
    rw (fe, te) (links_more _ _ _ _ _ _ c.requires.forest c.requires.from c.requires.to c.requires.apart c.requires.free c.requires.free_too k)

pub returns-clause-same : goal.returns-clause-same
returns-clause-same c h old same =
    let fe : c.push_reserved.new.self.items ≡ c.args.self.now.froms.items ++ c.args.a ∷ [] = cc in
    let te : c.push_reserved-2.new.self.items ≡ c.args.self.now.tos.items ++ c.args.b ∷ [] = cc in
    respects_more _ _ _ _ _ _ h c.requires.forest.paired fe te old same

pub returns-clause-alike : goal.returns-clause-alike
returns-clause-alike c h r =
    let fe : c.push_reserved.new.self.items ≡ c.args.self.now.froms.items ++ c.args.a ∷ [] = cc in
    let te : c.push_reserved-2.new.self.items ≡ c.args.self.now.tos.items ++ c.args.b ∷ [] = cc in
    alike_more _ _ _ _ _ _ h c.requires.forest.paired fe te r
