-- How clauses stand under the values that are fixed, where an atom past the values has none.
use Rattle.std.specs.Prelude.{◌≡◌, ℕ, ◌<◌, ◌≤◌, Bool, not, ⊤, ◌⊎◌, List, length, Option, None, Some, slice_get, slice_index_or}
use Rattle.std.specs.List.{All, Any}
use Rattle.std.specs.declared.vec.Vec.{Vec}
use Rattle.std.specs.declared.alloc.Global.{Global}
use Rattle.ground_solver.specs.Numbered.{Clauses}
use Rattle.ground_solver.specs.declared.signed.Signed.{Signed}
use Rattle.ground_solver.specs.declared.signed.Truth.{Truth}
use Rattle.ground_solver.specs.declared.signed.Truth.TheVariants.{True, False, Unknown}
use Rattle.ground_solver.specs.declared.standing.Standing.{Standing}
use Rattle.ground_solver.specs.declared.standing.Standing.TheVariants.{Falsified, Forcing, Open}
use Rattle.ground_solver.specs.declared.standing.Watched.{Watched}
use Rattle.ground_solver.specs.declared.standing.Watched.TheVariants.{Satisfied, Replaced, Last, Spent}

-- The value of an atom.
abbrev pub value_at : List (Option Bool) → ℕ → Option Bool
value_at values a = slice_index_or values a None

abbrev pub IsTrueIn : List (Option Bool) → Signed → Type 0
IsTrueIn values l = value_at values l.atom ≡ Some l.positive

abbrev pub IsFalseIn : List (Option Bool) → Signed → Type 0
IsFalseIn values l = value_at values l.atom ≡ Some (not l.positive)

abbrev pub IsFreeIn : List (Option Bool) → Signed → Type 0
IsFreeIn values l = value_at values l.atom ≡ None

-- What the truth of a literal says.
abbrev pub IsTruth : List (Option Bool) → Signed → Truth → Type 0
IsTruth values l True = IsTrueIn values l
IsTruth values l False = IsFalseIn values l
IsTruth values l Unknown = IsFreeIn values l

-- The literal at that place has no value.
abbrev pub IsFreeAt : List (Option Bool) → List Signed → ℕ → Type 0
IsFreeAt values clause k = (k < length clause) × ((d : Signed) → IsFreeIn values (slice_index_or clause k d))

-- Each literal is false but for the one at that place.
abbrev pub AreOthersFalse : List (Option Bool) → List Signed → ℕ → Type 0
AreOthersFalse values clause k = (j : ℕ) (d : Signed) → j < length clause → (j ≡ k) ⊎ IsFalseIn values (slice_index_or clause j d)

-- How a clause stands; None is said of one with a true literal.
abbrev pub IsStanding : List (Option Bool) → List Signed → Option Standing → Type 0
IsStanding values clause None = Any (IsTrueIn values) clause
IsStanding values clause (Some Falsified) = All (IsFalseIn values) clause
IsStanding values clause (Some (Forcing k)) = IsFreeAt values clause k × AreOthersFalse values clause k
IsStanding values clause (Some (Open k)) = IsFreeAt values clause k

-- What a clause comes to whose other watched literal stands at that place.
abbrev pub IsWatched : List (Option Bool) → List Signed → ℕ → Watched → Type 0
IsWatched values clause other Satisfied = ⊤
IsWatched values clause other (Replaced k) = k < length clause
IsWatched values clause other Last = IsFreeAt values clause other × AreOthersFalse values clause other
IsWatched values clause other Spent = All (IsFalseIn values) clause

-- The clause at that place has only false literals.
abbrev pub IsRefutedAt : Clauses → List (Option Bool) → ℕ → Type 0
IsRefutedAt clauses values n = (clause : Vec Signed Global) × (slice_get clauses n ≡ Some clause) × All (IsFalseIn values) clause.items

-- The clause at that place has only false literals but for one without a value.
abbrev pub IsLastOf : Clauses → List (Option Bool) → ℕ → ℕ → Type 0
IsLastOf clauses values n k =
    (clause : Vec Signed Global) × (slice_get clauses n ≡ Some clause) × IsFreeAt values clause.items k × AreOthersFalse values clause.items k

-- The literal at place k of the clause has no value.
abbrev pub IsOpenOf : Clauses → List (Option Bool) → ℕ → ℕ → Type 0
IsOpenOf clauses values n k = (clause : Vec Signed Global) × (slice_get clauses n ≡ Some clause) × IsFreeAt values clause.items k

-- The clause at that place has only false literals but for this one.
abbrev pub IsReasonFor : Clauses → List (Option Bool) → Signed → ℕ → Type 0
IsReasonFor clauses values l n =
    (clause : Vec Signed Global) × (slice_get clauses n ≡ Some clause) × All (λ m. (m ≡ l) ⊎ IsFalseIn values m) clause.items

-- Each clause from a place on has a true literal.
abbrev pub AreTrueFrom : Clauses → List (Option Bool) → ℕ → Type 0
AreTrueFrom clauses values n = (k : ℕ) (d : Vec Signed Global) → n ≤ k → k < length clauses → Any (IsTrueIn values) (slice_index_or clauses k d).items

-- The first clause from a place on that has no true literal, and how it stands.
abbrev pub IsFound : Clauses → List (Option Bool) → ℕ → Option (ℕ × Standing) → Type 0
IsFound clauses values from None = AreTrueFrom clauses values from
IsFound clauses values from (Some found) =
    (found.0 < length clauses) × ((d : Vec Signed Global) → IsStanding values (slice_index_or clauses found.0 d).items (Some found.1))
