-- The demands that a context can answer.
use Rattle.std.specs.Prelude.{◌≡◌, true}
use Rattle.me_terms.specs.Substitutions.{apply_atom, IsInstance}
use Rattle.me_terms.specs.Values.{ProblemValue, EntryValue}
use Rattle.me_terms.specs.Context.{Context, StandsAt, IsAtomWith}
use Rattle.me_terms.specs.GroundInstances.{are_ground_terms}
use Rattle.me_terms.specs.ListedInstances.{constant}
use Rattle.me_terms.specs.LeafList.{Demand}
use Rattle.me_terms.specs.declared.entry.Kind.TheVariants.{Parametric}

-- An entry stands at the position that holds at the literal, a Parametric one at its instance by c0; the literal is ground.
pub record IsRight (problem : ProblemValue) (context : Context) (d : Demand) : Type 0 where
  pub entry : EntryValue
  pub stands : StandsAt context d.0 entry
  pub same_sign : entry.positive ≡ d.1.positive
  pub holds : IsAtomWith (λ b. IsInstance b d.1.atom × (entry.kind ≡ Parametric → apply_atom (λ x. constant problem.c0) b ≡ d.1.atom)) entry.atom
  pub ground : are_ground_terms problem d.1.atom.args ≡ true
