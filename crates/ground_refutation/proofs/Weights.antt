-- Reading variables as a constant leaves weights as they are.
use Rattle.std.proofs.Common.{◌≡◌, ℕ, ◌+◌, refl, ap}
use Rattle.me_terms.specs.Terms.{TermValue, Var, App, Arguments, Nil, Cons}
use Rattle.me_terms.specs.Substitutions.{Family, apply_term, apply_arguments, apply_atom, apply_literal}
use Rattle.me_terms.specs.Variables.{weight, weights}
use Rattle.me_terms.specs.Measures.{literal_weight}
use Rattle.me_terms.specs.Unifier.{unified}
use Rattle.me_terms.specs.ListedInstances.{constant}
use Rattle.me_terms.specs.declared.atom.Literal.{Literal}

mutual
  read_weight : (c : ℕ) (t : TermValue) → weight (apply_term (λ x. constant c) t) ≡ weight t
  read_weight c (Var x) = refl
  read_weight c (App f ts) = ap (λ n. 1 + n) (read_weights c ts)

  pub read_weights : (c : ℕ) (ts : Arguments) → weights (apply_arguments (λ x. constant c) ts) ≡ weights ts
  read_weights c Nil = refl
  read_weights c (Cons t ts) = λ i. read_weight c t i + read_weights c ts i

-- of one literal of an instance
pub instance_literal_weight : (c : ℕ) (u : Family) (l : Literal) → literal_weight (apply_literal (λ x. constant c) (unified u l)) ≡ 1 + weights (apply_atom (u 0) l.atom).args
instance_literal_weight c u l = ap (λ n. 1 + n) (read_weights c (apply_atom (u 0) l.atom).args)
