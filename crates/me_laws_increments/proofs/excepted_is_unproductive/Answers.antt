use Rattle.me_laws_increments.proofs.Prefixes.{excepted_is_unproductive}
use Rattle.me_laws_increments.proofs.excepted_is_unproductive.Goals as goal

pub returns : goal.returns
returns c = excepted_is_unproductive
