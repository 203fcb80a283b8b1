use Rattle.me_laws_increments.proofs.Refusals.{allowed_where_not_refused}
use Rattle.me_laws_increments.proofs.allowed_where_not_refused.Goals as goal

pub returns : goal.returns
returns c = allowed_where_not_refused
