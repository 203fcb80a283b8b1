use Rattle.candidate_keys.proofs.Leasts.{earlier_first, earlier_second}
use Rattle.candidate_keys.proofs.asserts.earlier.Goals as goal

pub returns-then-precedes : goal.returns-then-precedes
returns-then-precedes c =
    earlier_first c.args.keys.now c.args.i c.args.k c.index-keys-i.result c.index-keys-k.result c.requires.first c.requires.second c.index-keys-i.is c.index-keys-k.is (c.precedes.ensures.0 c.if-precedes.true)

pub returns : goal.returns
returns c =
    earlier_second c.args.keys.now c.args.i c.args.k c.index-keys-i.result c.index-keys-k.result c.requires.first c.requires.second c.index-keys-i.is c.index-keys-k.is
    (λ h. let t = c.precedes.ensures.1 h in cc (t, c.if-precedes.false))
