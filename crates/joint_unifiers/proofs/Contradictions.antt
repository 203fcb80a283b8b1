-- Common instances of two atoms as solutions of their equation.
use Rattle.std.proofs.Common.{zero, suc, ◌↔◌, [], ◌∷◌, ◌++◌, arith}
use Rattle.me_terms.specs.Terms.{AtomValue}
use Rattle.me_terms.specs.Substitutions.{Substitution, Family}
use Rattle.me_terms.specs.Contradictory.{Unifiable}
use Rattle.me_terms.specs.declared.atom.Pattern.TheVariants.{Of}
use Rattle.me_unify.specs.Equations.{equation, IsSolvable}
use Rattle.joint_unifiers.proofs.Bridge.{solves_one}

-- a family with these two substitutions
abbrev two : Substitution → Substitution → Family
two s t zero = s
two s t (suc space) = t

pub unifiable_iff : (a b : AtomValue) → IsSolvable ([] ++ equation 0 a 1 b ∷ []) ↔ Unifiable (Of a) (Of b)
unifiable_iff a b = (
  λ h. (h.0 0, h.0 1, h.1 0 (equation 0 a 1 b) (omega arith)),
  λ h. (two h.0 h.1, solves_one (two h.0 h.1) (equation 0 a 1 b) h.2),
)
