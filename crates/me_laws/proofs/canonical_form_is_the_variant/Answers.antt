use Rattle.me_laws.proofs.CanonicalForm.{canonical_form}
use Rattle.me_laws.proofs.canonical_form_is_the_variant.Goals as goal

pub returns : goal.returns
returns c = canonical_form
