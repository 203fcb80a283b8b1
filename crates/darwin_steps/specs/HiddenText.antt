-- The line of the entries that a new one hides.
use Rattle.std.specs.Prelude.{◌≡◌, ℕ, zero, suc, List, [], ◌∷◌, ◌++◌, codes, decimal, length}
use Rattle.me_terms.specs.Values.{EntryValue}
use Rattle.me_terms.specs.Context.{Context, Covers, IsVisible}

-- A visible entry stands at position k, and the new one covers it.
abbrev pub IsNewlyCovered : Context → EntryValue → ℕ → Type 0
IsNewlyCovered context new k = (e : EntryValue) × IsVisible context k e × Covers new e

-- The name of position k, behind a blank.
abbrev pub place_text : ℕ → List ℕ
place_text k = codes " e" ++ decimal k

-- The text at position k: its name where the new entry covers what is visible there, and else nothing.
pub data IsHiddenAt (context : Context) (new : EntryValue) (k : ℕ) : List ℕ → Type 0 where
  hidden : IsNewlyCovered context new k → IsHiddenAt context new k (place_text k)
  kept : ¬ IsNewlyCovered context new k → IsHiddenAt context new k []

-- The text at the first n positions, one after another.
abbrev pub AreHiddenBelow : Context → EntryValue → ℕ → List ℕ → Type 0
AreHiddenBelow context new zero text = text ≡ []
AreHiddenBelow context new (suc n) text =
    (before name : List ℕ) × AreHiddenBelow context new n before × IsHiddenAt context new n name × (text ≡ before ++ name)

-- A line of names, or nothing where there is none.
abbrev pub hides_line : List ℕ → List ℕ
hides_line [] = []
hides_line (c ∷ cs) = codes "hides" ++ (c ∷ cs) ++ codes "\n"

-- The line of all positions of the context that the new entry hides.
abbrev pub IsHiddenText : Context → EntryValue → List ℕ → Type 0
IsHiddenText context new text =
    (names : List ℕ) × AreHiddenBelow context new (length context) names × (text ≡ hides_line names)
