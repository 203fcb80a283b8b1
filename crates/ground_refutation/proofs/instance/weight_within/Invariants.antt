use Rattle.std.proofs.Common.{◌≡◌, ℕ, ◌+◌, ◌≤◌, drop}
use Rattle.me_terms.specs.Substitutions.{Family}
use Rattle.me_terms.specs.Measures.{literals_weight}
use Rattle.me_terms.specs.ListedInstances.{constant, instance_of}
use Rattle.me_unify.specs.Equations.{IsMostGeneral}
use Rattle.ground_refutation.proofs.instance.weight_within.Given as goal

-- What is counted and what is left weigh as much as the instance.
abbrev pub invariant-loop-literal : goal.invariant-loop-literal
invariant-loop-literal l = record {
  kept : l.bindings ≡ l.fn.bindings;
  light : l.weight ≤ l.bound;
  counted : (u : Family) (c : ℕ) → IsMostGeneral l.fn.bindings u
      → l.weight + literals_weight (instance_of u (λ x. constant c) (drop l.literal-index l.literals)) ≡ literals_weight (instance_of u (λ x. constant c) l.literals);
}
