use Rattle.std.proofs.Common.{◌≡◌, ◌++◌, drop}
use Rattle.me_terms.specs.Substitutions.{Family}
use Rattle.me_terms.specs.ListedInstances.{constant, instance_of}
use Rattle.me_unify.specs.Equations.{IsMostGeneral}
use Rattle.ground_refutation.proofs.instance.written.Given as goal

-- What is written and what is left are the instance.
abbrev pub invariant-loop-literal : goal.invariant-loop-literal
invariant-loop-literal l =
    (u : Family) → IsMostGeneral l.bindings u → l.list.items ++ instance_of u (λ x. constant l.fn.c0) (drop l.literal-index l.literals) ≡ instance_of u (λ x. constant l.fn.c0) l.literals
