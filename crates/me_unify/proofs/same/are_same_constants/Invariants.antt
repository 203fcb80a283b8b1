use Rattle.std.proofs.Common.{◌≡◌, take, map}
use Rattle.me_terms.specs.Substitutions.{Substitution, apply_term}
use Rattle.me_unify.proofs.same.are_same_constants.Given as goal

abbrev pub invariant-loop-k : goal.invariant-loop-k
invariant-loop-k l = (s r : Substitution) → map (apply_term s) (take l.k l.left.items) ≡ map (apply_term r) (take l.k l.right.items)
