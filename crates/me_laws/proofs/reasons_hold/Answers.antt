use Rattle.std.proofs.Common.{refl}
use Rattle.me_laws.proofs.Reasons.{reasons_hold}
use Rattle.me_laws.proofs.reasons_hold.Goals as goal

pub returns : goal.returns
returns c = λ problem bounds before later e h. reasons_hold h before later e refl
