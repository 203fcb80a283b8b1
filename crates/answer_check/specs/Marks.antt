-- How an input is parted into a problem and an answer.
use Rattle.std.specs.Prelude.{ℕ, Bool, ◌||◌, List, [], ◌∷◌, ◌++◌, codes, if◌then◌else◌}
use Rattle.std.specs.List.{flat_map}
use Rattle.std.specs.Str.{bytes_eq}
use Rattle.szs_read.specs.Lines.{lines}

-- The line is exactly `% ANSWER`, whether a line feed ends it or the input.
abbrev pub is_mark : List ℕ → Bool
is_mark line = bytes_eq line (codes "% ANSWER\n") || bytes_eq line (codes "% ANSWER")

-- the bytes of the lines before the first mark
abbrev pub before_mark : List (List ℕ) → List ℕ
before_mark [] = []
before_mark (line ∷ lines) = if is_mark line then [] else line ++ before_mark lines

-- the bytes of the lines behind it, and none where there is no mark
abbrev pub after_mark : List (List ℕ) → List ℕ
after_mark [] = []
after_mark (line ∷ lines) = if is_mark line then flat_map (λ (l : List ℕ). l) lines else after_mark lines

abbrev pub problem_bytes : List ℕ → List ℕ
problem_bytes input = before_mark (lines input)

abbrev pub answer_bytes : List ℕ → List ℕ
answer_bytes input = after_mark (lines input)
