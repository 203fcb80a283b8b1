-- The search for a least candidate: of those that were looked at, the best one so far is kept. What a candidate gives has a rank, and a candidate of a lower rank takes the place of the best one so far; where ranks are equal, the one that was looked at first stays.
use Rattle.std.specs.Prelude.{◌≡◌, ℕ, List, Option, Some, None, ◌⊎◌, ⊤}
use Rattle.me_terms.specs.Order.{Precedes}

-- The rank comes before the other one, and is not it.
abbrev pub StrictlyPrecedes : List ℕ → List ℕ → Type 0
StrictlyPrecedes rank other = Precedes rank other × ¬ (rank ≡ other)

-- What is given comes before the best one so far, if there is one.
abbrev pub Improves : {E : Type 0} → (E → List ℕ) → Option E → E → Type 0
Improves rank None e = ⊤
Improves rank (Some best) e = StrictlyPrecedes (rank e) (rank best)

-- A candidate among those of which P holds gives e, and none of those has a key that comes before its own.
pub record IsLeast {C E : Type 0} (given : C → E) (key : C → List ℕ) (P : C → Type 0) (e : E) : Type 0 where
  pub at : C
  pub among : P at
  pub gives : e ≡ given at
  pub least : (other : C) → P other → Precedes (key at) (key other)

-- After a look at the candidates of which P holds: none of them improves on the best one so far, and it stays; or the least of them does, and takes its place.
abbrev pub Updates : {C E : Type 0} → (C → E) → (E → List ℕ) → (C → List ℕ) → (C → Type 0) → Option E → Option E → Type 0
Updates {C} {E} given rank key P best better =
    ((better ≡ best) × ((other : C) → P other → ¬ Improves rank best (given other)))
    ⊎ ((e : E) × (better ≡ Some e) × IsLeast given key P e × Improves rank best e)
