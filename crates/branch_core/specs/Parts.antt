-- Parts and records.
use Rattle.std.specs.Prelude.{ℕ, List, nat_le, if◌then◌else◌}
use Rattle.me_terms.specs.Measures.{list_weight}
use Rattle.me_terms.specs.Values.{InstanceValue}
use Rattle.me_terms.specs.Context.{Context}
use Rattle.me_terms.specs.declared.bounds.Bound.{Bound}
use Rattle.branch_core.specs.Paths.{Turns}

-- The list of a closed part, which is left out where it is too heavy.
pub data ListedValue : Type 0 where
  Whole : List InstanceValue → ListedValue
  TooHeavy : ListedValue

-- What a record says of a run of leaves, or of a subtree that was given away.
pub data PartValue : Type 0 where
  Closed : ListedValue → PartValue
  Bounded : Bound → PartValue
  Sat : Context → PartValue
  Gift : Turns → PartValue
  Cut : ℕ → PartValue
  NoMemory : PartValue

-- What was found in the region of a path, from left to right.
pub record RecordValue : Type 0 where
  pub path : Turns
  pub parts : List PartValue

-- The list, where its weight is within the list bound; TooHeavy exactly where it is greater.
abbrev pub listed : ℕ → List InstanceValue → ListedValue
listed list_bound list = if nat_le (list_weight list) list_bound then Whole list else TooHeavy
