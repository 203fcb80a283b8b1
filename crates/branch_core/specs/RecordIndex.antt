-- Where the record of each path stands, by the path's code.
use Rattle.std.specs.Prelude.{◌≡◌, ℕ, ◌<◌, List, length, nat_eq, slice_get, Some, IsSome}
use Rattle.std.specs.HashMap.{HashMap, get}
use Rattle.branch_core.specs.Paths.{Turns, code}
use Rattle.branch_core.specs.Parts.{RecordValue}

-- Each of the first records has a place, and where a path's code has a place a record of the path stands there.
pub record IndexesFirst {S : Type 0} (count : ℕ) (records : List RecordValue) (places : HashMap ℕ ℕ S) : Type 0 where
  pub has : (k : ℕ) (record' : RecordValue) → k < count → slice_get records k ≡ Some record' → IsSome (get nat_eq places (code record'.path))
  pub stands : (path : Turns) (k : ℕ) → get nat_eq places (code path) ≡ Some k → (record' : RecordValue) × (slice_get records k ≡ Some record') × (record'.path ≡ path)

-- All records have their places.
abbrev pub IsIndex : {S : Type 0} → List RecordValue → HashMap ℕ ℕ S → Type 0
IsIndex records places = IndexesFirst (length records) records places
