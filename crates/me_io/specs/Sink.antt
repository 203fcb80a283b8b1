-- What a sink has after a fault.
use Rattle.std.specs.Prelude.{◌<◌, ℕ, List, length, take, Option}
use Rattle.std.specs.Io.KnownBytes.{Appends}
use Rattle.me_io.specs.declared.sink.WriteError.{WriteError}
use Rattle.me_io.specs.declared.sink.WriteError.TheVariants.{Fault}

-- how many bytes the sink had taken before the fault
abbrev pub written_before : WriteError → ℕ
written_before (Fault written) = written

-- The sink has what it had, followed by the bytes before the fault, and those aren't all.
pub record AppendedFront (held held' : Option (List ℕ)) (written : ℕ) (bytes : List ℕ) : Type 0 where
  pub cut : written < length bytes
  pub appended : Appends held held' (take written bytes)
