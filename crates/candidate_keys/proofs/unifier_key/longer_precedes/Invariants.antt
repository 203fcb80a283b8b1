use Rattle.std.proofs.Common.{◌≤◌, ◌+◌, ◌↔◌, [], ◌∷◌, ◌++◌, length, drop}
use Rattle.me_terms.specs.Order.{Precedes}
use Rattle.candidate_keys.proofs.unifier_key.longer_precedes.Given as goal

-- What is left of the lists decides.
abbrev pub invariant-loop-k : goal.invariant-loop-k
invariant-loop-k l = record {
  within : l.k ≤ length l.other + 1;
  rest : Precedes (drop l.k (l.list ++ l.last ∷ [])) (drop l.k (l.other ++ l.other_last ∷ [])) ↔ Precedes (l.list ++ l.last ∷ []) (l.other ++ l.other_last ∷ []);
}
