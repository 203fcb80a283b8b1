use Rattle.me_laws_examples.proofs.MeasuredTerms.{measured_terms}
use Rattle.me_laws_examples.proofs.measured_terms.Goals as goal

pub returns : goal.returns
returns c = measured_terms
