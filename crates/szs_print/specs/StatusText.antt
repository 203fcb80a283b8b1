-- The lines that name the status and enclose the output.
use Rattle.std.specs.Prelude.{ℕ, List, ◌++◌, codes}

-- A line that begins with a head and a word and ends with the name.
abbrev pub named_line : List ℕ → List ℕ → List ℕ → List ℕ
named_line head word name = head ++ word ++ codes " for " ++ name ++ codes "\n"

-- The line of a status, by its SZS word.
abbrev pub status_line : List ℕ → List ℕ → List ℕ
status_line word name = named_line (codes "% SZS status ") word name

-- The line before or after the output.
abbrev pub output_line : List ℕ → List ℕ → List ℕ
output_line edge name = named_line (codes "% SZS output ") edge name

-- The line of a reason.
abbrev pub reason_line : List ℕ → List ℕ
reason_line reason = codes "% reason " ++ reason ++ codes "\n"
