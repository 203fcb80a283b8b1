-- Each pair of numbers as a number of its own.
use Rattle.std.specs.Prelude.{ℕ, ◌+◌, ◌/◌, ◌%◌, zero, suc, eqb, if◌then◌else◌}
use Rattle.me_terms.specs.Terms.{Var}
use Rattle.me_terms.specs.Substitutions.{Family}

abbrev pub pair : ℕ → ℕ → ℕ
pair zero x = x + x
pair (suc i) x = suc (pair i x + pair i x)

abbrev pub first_in : ℕ → ℕ → ℕ
first_in zero z = 0
first_in (suc k) z = if eqb (z % 2) 0 then 0 else suc (first_in k (z / 2))

abbrev pub second_in : ℕ → ℕ → ℕ
second_in zero z = 0
second_in (suc k) z = if eqb (z % 2) 0 then z / 2 else second_in k (z / 2)

abbrev pub first_of_pair : ℕ → ℕ
first_of_pair z = first_in (suc z) z

abbrev pub second_of_pair : ℕ → ℕ
second_of_pair z = second_in (suc z) z

-- The variables of all spaces, each a variable of its own.
abbrev pub apart : Family
apart space x = Var (pair space x)
