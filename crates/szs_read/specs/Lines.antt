-- How bytes are cut into lines.
use Rattle.std.specs.Prelude.{ℕ, List, [], ◌∷◌, ◌==◌, if◌then◌else◌}

-- The lines with a byte before the first one.
abbrev pub before_lines : ℕ → List (List ℕ) → List (List ℕ)
before_lines byte [] = (byte ∷ []) ∷ []
before_lines byte (line ∷ lines) = (byte ∷ line) ∷ lines

-- The lines, each with the line feed that ends it. Bytes behind the last line feed are a line too.
abbrev pub lines : List ℕ → List (List ℕ)
lines [] = []
lines (byte ∷ bytes) = if byte == 10 then (10 ∷ []) ∷ lines bytes else before_lines byte (lines bytes)
