-- Equations under which the variables that are left are set equal to constants, and what they tell of instances.
use Rattle.std.specs.Prelude.{◌≡◌, ◌↔◌, ℕ, ◌+◌, ◌-◌, ◌^◌, ◌<◌, true, List, [], ◌∷◌, ◌++◌}
use Rattle.me_terms.specs.Terms.{Var, App, Nil, AtomValue, TermValue, Cons}
use Rattle.me_terms.specs.Variables.{are_ground}
use Rattle.me_terms.specs.Substitutions.{Family, apply_arguments, IsInstance}
use Rattle.me_unify.specs.Equations.{Equation, equation, SolvesAll, IsSolvable, IsMostGeneral}

-- The space of an atom that is asked for: no clause has so many places.
abbrev pub ASKED : ℕ
ASKED = 2 ^ 32 - 1

-- the atom of one term
abbrev pub unary : TermValue → AtomValue
unary t = record { pred = 0; args = Cons t Nil }

-- The variable x of the space is the constant n.
abbrev pub frozen_as : ℕ → ℕ → ℕ → Equation
frozen_as space x n = equation space (unary (Var x)) 0 (unary (App n Nil))

-- what a family has for a variable of a space
abbrev pub at_slot : Family → ℕ × ℕ → TermValue
at_slot v s = v s.0 s.1

-- The second equations say what the first say, and that so many variables are constants with numbers from that one on, each its own.
pub record IsFrozen (equations : List Equation) (first : ℕ) (frozen : List Equation) (next : ℕ) : Type 0 where
  pub count : ℕ
  pub slot : ℕ → ℕ × ℕ
  pub numbers : next ≡ first + count
  pub below : (i : ℕ) → i < count → (slot i).0 < ASKED
  pub solutions : (v : Family) → SolvesAll v frozen ↔ (SolvesAll v equations × ((i : ℕ) → i < count → at_slot v (slot i) ≡ App (first + i) Nil))

-- Whatever the old equations freeze, the new ones freeze.
abbrev pub StaysFrozen : List Equation → ℕ → List Equation → ℕ → Type 0
StaysFrozen old n new m =
    (equations : List Equation) (first : ℕ) → IsFrozen equations first old n → IsFrozen equations first new m

-- The equations leave no variable in the atom.
abbrev pub LeavesGround : List Equation → AtomValue → Type 0
LeavesGround equations a = (v : Family) × (IsMostGeneral equations v × (are_ground (apply_arguments (v 0) a.args) ≡ true))

-- The equations, and that the atom asked for is the other one.
abbrev pub asking : List Equation → AtomValue → AtomValue → List Equation
asking equations b a = equations ++ equation ASKED b 0 a ∷ []

-- Which atoms c is an instance of, both lists of equations together tell by the atom a.
abbrev pub TellInstances : List Equation → List Equation → AtomValue → AtomValue → Type 0
TellInstances one other a c = (b : AtomValue) → (IsSolvable (asking one b a) × IsSolvable (asking other b a)) ↔ IsInstance b c
