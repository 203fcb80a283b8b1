-- What callers see of the sources and sinks in memory.
use Rattle.std.specs.Prelude.{◌+◌, ◌-◌, ◌^◌, ℕ, List, min}

-- one more, up to the last number of a u64
abbrev pub one_more : ℕ → ℕ
one_more n = min (n + 1) (2 ^ 64 - 1)

-- bytes that are handed out in order: those left, how many were given, and how many one call gives at most
pub record Stock : Type 0 where
  pub left : List ℕ
  pub given : ℕ
  pub piece : ℕ

-- the numbers of the calls that fail, and how many calls and faults there were
pub record Plan : Type 0 where
  pub fails : List ℕ
  pub calls : ℕ
  pub faults : ℕ

-- a source in memory
pub record Feed : Type 0 where
  pub stock : Stock
  pub plan : Plan

-- a sink in memory: the bytes written, and how many one call takes at most
pub record Store : Type 0 where
  pub bytes : List ℕ
  pub piece : ℕ
  pub plan : Plan
