use Rattle.std.proofs.Common.{◌≡◌, ◌+◌, ◌-◌, ◌<◌, ℕ, get_or, length, arith}
use Rattle.me_unify.proofs.Forest.{links_less}
use Rattle.me_unify.proofs.Steps.{at_zero}
use Rattle.me_unify.proofs.links.Links.unlink.Goals as goal

pub returns-clause-forest : goal.returns-clause-forest
returns-clause-forest c =
    let last : ℕ = c.len-last.result - 1 in
    let len : length c.args.self.now.froms.items ≡ c.len-last.result - 1 + 1 = omega (arith, c.len-last.ensures, c.requires.some) in
    let within : c.len-last.result - 1 < length c.args.self.now.froms.items = omega arith in
    let is : c.index-a.result.now ≡ get_or c.args.self.now.froms.items (c.len-last.result - 1) 0 = at_zero c.args.self.now.froms.items (c.len-last.result - 1) _ within c.index-a.ensures in
    rw (c.truncate.ensures.items, c.truncate-2.ensures.items) (links_less _ _ _ _ (c.len-last.result - 1) c.requires.forest len is)
