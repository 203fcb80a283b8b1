-- Equations between atoms, each with the variables of a space, and what solves them.
use Rattle.std.specs.Prelude.{◌≡◌, ℕ, List, refl}
use Rattle.std.specs.List.{All}
use Rattle.std.specs.Coded.{Coded, code_by, coded×, coded_ℕ, coded_list}
use Rattle.me_terms.specs.Terms.{AtomValue, atom_code}
use Rattle.me_terms.specs.Substitutions.{Substitution, Family, apply_term, apply_atom}

-- two atoms that are to be equal, and the spaces of their variables
pub record Equation : Type 0 where
  pub left_space : ℕ
  pub left : AtomValue
  pub right_space : ℕ
  pub right : AtomValue

abbrev pub equation_code : Coded Equation
equation_code =
    code_by ((ℕ × AtomValue) × (ℕ × AtomValue)) (coded× (coded× coded_ℕ atom_code) (coded× coded_ℕ atom_code)) (λ e. ((e.left_space, e.left), (e.right_space, e.right)))
    (λ p. record { left_space = p.0.0; left = p.0.1; right_space = p.1.0; right = p.1.1 }) (λ _. refl)

abbrev pub equations_code : Coded (List Equation)
equations_code = coded_list equation_code

abbrev pub equation : ℕ → AtomValue → ℕ → AtomValue → Equation
equation ls left rs right = record { left_space = ls; left = left; right_space = rs; right = right }

-- The family takes both atoms to one.
abbrev pub SolvesOne : Family → Equation → Type 0
SolvesOne u e = apply_atom (u e.left_space) e.left ≡ apply_atom (u e.right_space) e.right

abbrev pub SolvesAll : Family → List Equation → Type 0
SolvesAll u equations = All (SolvesOne u) equations

abbrev pub IsSolvable : List Equation → Type 0
IsSolvable equations = (u : Family) × SolvesAll u equations

-- The family is a most general unifier of the equations. 'Most general' ranges over every variable of every space: each solution is the family, followed by one substitution.
pub record IsMostGeneral (equations : List Equation) (u : Family) : Type 0 where
  pub solves : SolvesAll u equations
  pub most_general : (v : Family) → SolvesAll v equations → (r : Substitution) × ((space x : ℕ) → apply_term r (u space x) ≡ v space x)
