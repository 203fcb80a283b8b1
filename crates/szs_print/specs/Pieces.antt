-- A text in pieces, and how much of it a sink has after a fault.
use Rattle.std.specs.Prelude.{◌≡◌, ℕ, ◌+◌, List, Option}
use Rattle.me_io.specs.Sink.{AppendedFront, written_before}
use Rattle.me_io.specs.declared.sink.WriteError.{WriteError}

-- After the first bytes of a text, a front of the next piece was appended, and the error counts both.
pub record AppendedFrontAfter (held held' : Option (List ℕ)) (before : ℕ) (piece : List ℕ) (e : WriteError) : Type 0 where
  pub front : ℕ
  pub counted : written_before e ≡ before + front
  pub appended : AppendedFront held held' front piece
