use Rattle.std.proofs.Common.{rules, ◌≡◌, length, refl}
use Rattle.literal_index.proofs.Listed.{push_listed}
use Rattle.literal_index.proofs.postings.Postings.push.Goals as goal

pub invariant_of-self-2 : goal.invariant_of-self-2
invariant_of-self-2 c =
    let at : c.len-k.result ≡ length c.self.inside.keys.items = search (rules, c.len-k.ensures, c.reserve.ensures.items) in
    let more = push_listed _ c.self.inside.keys.items c.args.key c.len-k.result c.self.inside.lists.entries c.put_key.new.lists.entries refl c.self.invariant at c.in_ok-put_key.ensures.ok in
    rw (c.push_reserved.ensures.items, c.reserve.ensures.items) more
