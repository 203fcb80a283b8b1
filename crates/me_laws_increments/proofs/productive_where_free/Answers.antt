use Rattle.me_laws_increments.proofs.Exceptions.{productive_where_free}
use Rattle.me_laws_increments.proofs.productive_where_free.Goals as goal

pub returns : goal.returns
returns c = productive_where_free
