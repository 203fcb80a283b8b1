use Rattle.std.proofs.Common.{◌≡◌, ℕ, ◌<◌, None, Some, slice_get}
use Rattle.me_terms.specs.Substitutions.{Family}
use Rattle.me_terms.specs.Values.{EntryValue}
use Rattle.me_terms.specs.Measures.{complement}
use Rattle.me_terms.specs.Context.{StandsAt}
use Rattle.me_terms.specs.Positions.{positions_of}
use Rattle.me_terms.specs.Unifier.{IsUnifier, unified}
use Rattle.me_terms.specs.Produces.{Produces}
use Rattle.me_terms.specs.declared.atom.Literal.{Literal}
use Rattle.context_unifier.proofs.productive.is_productive.Given as goal

-- At each place so far the entry produces.
abbrev pub invariant-loop-place : goal.invariant-loop-place
invariant-loop-place g l =
    (f : Family) → IsUnifier (g.V.View.context l.view) l.clause.literals (positions_of None l.u.tuple) f → (i k : ℕ) (m : Literal) (e : EntryValue) → i < l.place → slice_get l.clause.literals i ≡ Some m → slice_get l.u.tuple i ≡ Some k → StandsAt (g.V.View.context l.view) k e → Produces (g.V.View.context l.view) k e (complement (unified f m))
