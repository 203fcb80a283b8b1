-- What a file is once each include in it is replaced by what it includes.
use Rattle.std.specs.Prelude.{◌≡◌, ℕ, zero, suc, ◌-◌, List, [], ◌∷◌, ◌++◌, take, drop, Option, Some, None}
use Rattle.std.specs.List.{list_any, filter, flat_map}
use Rattle.me_terms.specs.LabelEquality.{same_label}
use Rattle.me_terms.specs.Values.{LabelValue}
use Rattle.tptp_lines.specs.Lines.{LineValue, Formula, Include, AreLines}
use Rattle.tptp_include.specs.Files.{FileValue, bytes_named}

-- a formula: its label, and its bytes from its first token to its full stop
pub record FlatValue : Type 0 where
  pub label : LabelValue
  pub bytes : List ℕ

-- each formula and a line feed
abbrev pub text_of : List FlatValue → List ℕ
text_of formulas = flat_map (λ f. f.bytes ++ 10 ∷ []) formulas

-- the bytes from one place up to another
abbrev pub between : List ℕ → ℕ → ℕ → List ℕ
between bytes from to = take (to - from) (drop from bytes)

-- Without a selection all formulas are picked, and with one those whose label is in it, in their order and with repeats.
abbrev pub picked : Option (List LabelValue) → List FlatValue → List FlatValue
picked None formulas = formulas
picked (Some labels) formulas = filter (λ f. list_any (same_label f.label) labels) formulas

-- The formulas of the lines of these bytes, with those of the included file in the place of each include. What a file of a name is once it is flat is said by the first argument.
abbrev pub AreFlatLines : (List ℕ → List FlatValue → Type 0) → List ℕ → List LineValue → List FlatValue → Type 0
AreFlatLines IsFlatFile bytes [] flat = flat ≡ []
AreFlatLines IsFlatFile bytes (Formula label from to ∷ lines) flat = (rest : List FlatValue) × (flat ≡ record { label = label; bytes = between bytes from to } ∷ rest) × AreFlatLines IsFlatFile bytes lines rest
AreFlatLines IsFlatFile bytes (Include file picks ∷ lines) flat = (whole rest : List FlatValue) × IsFlatFile file whole × (flat ≡ picked picks whole ++ rest) × AreFlatLines IsFlatFile bytes lines rest

-- The file of this name, whose includes go at most so deep, has these formulas once it is flat.
abbrev pub IsFlat : ℕ → List FileValue → List ℕ → List FlatValue → Type 0
IsFlat zero files name flat = ⊥
IsFlat (suc depth) files name flat = (bytes : List ℕ) × (lines : List LineValue) × (bytes_named files name ≡ Some bytes) × AreLines bytes lines × AreFlatLines (IsFlat depth files) bytes lines flat
