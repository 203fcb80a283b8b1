use Rattle.me_laws.proofs.Determined.{renamed, remainder_same, canonical_unified}
use Rattle.me_laws.proofs.unifiers_agree.Goals as goal

pub returns : goal.returns
returns c = λ context literals positions u v f g.
    let h = renamed context literals positions u v f g in (remainder_same context positions u v h, λ l. canonical_unified u v h l)
