use Rattle.me_laws.proofs.Renaming.{Variants, canonical_same, depth_same, weight_same}
use Rattle.me_terms.specs.Terms.{AtomValue}
use Rattle.me_terms.specs.Substitutions.{IsInstance}
use Rattle.me_laws.proofs.variants_are_alike.Goals as goal

joined : (a b : AtomValue) → IsInstance a b → IsInstance b a → Variants a b
joined a b f g = record { there = f.0; back = g.0; to = f.1; from = g.1 }

pub returns : goal.returns
returns c = λ a b f g. (canonical_same a b (joined a b f g), depth_same a b (joined a b f g), weight_same a b (joined a b f g))
