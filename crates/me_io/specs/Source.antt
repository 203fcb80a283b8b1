-- What a source gives up, and how a count of faults tells that one came.
use Rattle.std.specs.Prelude.{◌≡◌, ◌⊎◌, ◌+◌, ◌-◌, ◌^◌, ◌<◌, ℕ, List, length, Option}
use Rattle.std.specs.Io.KnownBytes.{Consumes}

-- A count of faults rose: it is greater than before, or stands at the last number of a u64.
abbrev pub Rose : ℕ → ℕ → Type 0
Rose old new = (old < new) ⊎ (new ≡ 2 ^ 64 - 1)

-- The source gave up a front of the bytes that it had left, as many as its count of given bytes rose by.
pub record GaveFront (left left' : Option (List ℕ)) (given given' : ℕ) : Type 0 where
  pub front : List ℕ
  pub gone : Consumes left left' front
  pub counted : given' ≡ given + length front
