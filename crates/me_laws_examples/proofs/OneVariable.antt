-- The clause's first variable and that of the entry at its first place, as one variable; all others apart.
use Rattle.std.proofs.Common.{◌≡◌, ℕ, zero, suc, ◌∙◌}
use Rattle.me_terms.specs.Terms.{TermValue, Var, Arguments, Nil, Cons}
use Rattle.me_terms.specs.Substitutions.{Family, apply_term}
use Rattle.me_laws.specs.Pairing.{pair, apart}
use Rattle.me_laws_examples.specs.Letters.{a}
use Rattle.me_laws_examples.proofs.MergedVariables.{reading, read_back}

unfoldable pub one_variable : Family
one_variable zero zero = Var (pair 1 0)
one_variable zero (suc x) = apart 0 (suc x)
one_variable (suc space) x = apart (suc space) x

pub one_variable_general : (v : Family) → v 1 0 ≡ v 0 0 → (space x : ℕ) → apply_term (reading v) (one_variable space x) ≡ v space x
unfolding one_variable
one_variable_general v same zero zero = read_back v 1 0 ∙ same
one_variable_general v same zero (suc x) = read_back v 0 (suc x)
one_variable_general v same (suc space) x = read_back v (suc space) x

unfoldable pub only_argument : Arguments → TermValue
only_argument Nil = a
only_argument (Cons t ts) = t
