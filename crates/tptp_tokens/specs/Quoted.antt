-- How a text is written in quotes: with a backslash before each quote of that kind and each backslash.
use Rattle.std.specs.Prelude.{ℕ, Bool, true, false, List, [], ◌∷◌, ◌++◌, ◌||◌, ◌==◌, if◌then◌else◌}
use Rattle.std.specs.List.{flat_map}

-- the byte is written with a backslash
abbrev pub is_escaped : ℕ → ℕ → Bool
is_escaped quote byte = byte == quote || byte == 92

-- how a byte is written, with a backslash or without
abbrev pub escaped_if : Bool → ℕ → List ℕ
escaped_if true byte = 92 ∷ byte ∷ []
escaped_if false byte = byte ∷ []

abbrev pub escaped_byte : ℕ → ℕ → List ℕ
escaped_byte quote byte = escaped_if (is_escaped quote byte) byte

-- the text as it stands between two quotes
abbrev pub escaped : ℕ → List ℕ → List ℕ
escaped quote text = flat_map (escaped_byte quote) text

-- the text with its quotes
abbrev pub quoted : ℕ → List ℕ → List ℕ
quoted quote text = quote ∷ (escaped quote text ++ quote ∷ [])

-- the text that is left to be read, where the byte before was a backslash that escapes the next byte, or was none
abbrev pub unescaped_from : Bool → List ℕ → List ℕ
unescaped_from pending [] = []
unescaped_from true (byte ∷ written) = byte ∷ unescaped_from false written
unescaped_from false (byte ∷ written) = if byte == 92 then unescaped_from true written else byte ∷ unescaped_from false written

-- the text of what stands between two quotes: each pair of a backslash and a byte is read as the byte
abbrev pub unescaped : List ℕ → List ℕ
unescaped written = unescaped_from false written
