-- Fronts of bytes that are as long as can be.
use Rattle.std.specs.Prelude.{◌≡◌, ◌≤◌, ℕ, Bool, false, List, [], ◌∷◌, ◌++◌, length, IsTrue}
use Rattle.std.specs.List.{list_all}

-- no byte comes next, or one without p
abbrev pub Stops : (ℕ → Bool) → List ℕ → Type 0
Stops p [] = Unit {0}
Stops p (byte ∷ bytes) = p byte ≡ false

-- the longest front of the bytes in which each byte has p, and what comes after it
pub record IsRun (p : ℕ → Bool) (run bytes rest : List ℕ) : Type 0 where
  pub parts : bytes ≡ run ++ rest
  pub each : IsTrue (list_all p run)
  pub stops : Stops p rest

-- the longest front of the bytes that has P, and what comes after it
pub record IsLongestFront (P : List ℕ → Type 0) (front bytes rest : List ℕ) : Type 0 where
  pub parts : bytes ≡ front ++ rest
  pub has : P front
  pub longest : (other after : List ℕ) → P other → bytes ≡ other ++ after → length other ≤ length front

-- rest comes after the longest front of the bytes that has P
abbrev pub IsAfter : (List ℕ → Type 0) → List ℕ → List ℕ → Type 0
IsAfter P bytes rest = (front : List ℕ) × IsLongestFront P front bytes rest

-- no front of the bytes has P
abbrev pub HasNoFront : (List ℕ → Type 0) → List ℕ → Type 0
HasNoFront P bytes = (front rest : List ℕ) → P front → bytes ≡ front ++ rest → ⊥
