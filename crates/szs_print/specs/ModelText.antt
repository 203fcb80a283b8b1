-- The text of a model, which is given by the context that induces it.
use Rattle.std.specs.Prelude.{◌≡◌, ℕ, zero, suc, Bool, List, [], ◌∷◌, ◌++◌, codes, decimal, length, if◌then◌else◌}
use Rattle.me_terms.specs.Terms.{AtomValue}
use Rattle.me_terms.specs.Values.{SignatureValue, EntryValue}
use Rattle.me_terms.specs.Context.{Context, StandsAt, IsHidden, IsVisible}
use Rattle.me_terms.specs.declared.entry.Kind.{Kind}
use Rattle.me_terms.specs.declared.entry.Kind.TheVariants.{Universal, Parametric}
use Rattle.me_terms.specs.declared.atom.Pattern.TheVariants.{Any, Of}
use Rattle.cnf_text.specs.ClauseText.{literal_text}
use Rattle.szs_print.specs.StatusText.{status_line, output_line}

abbrev pub kind_text : Kind → List ℕ
kind_text Universal = codes "universal"
kind_text Parametric = codes "parametric"

-- The line of a literal of a kind, at position k.
abbrev pub literal_line : SignatureValue → ℕ → Bool → AtomValue → Kind → List ℕ
literal_line signature k positive a kind =
    codes "cnf(e" ++ decimal k ++ codes ",plain," ++ literal_text signature (record { positive = positive; atom = a }) ++ codes "," ++ kind_text kind ++ codes ").\n"

-- The text at position k: the line of a visible literal, and nothing for what is hidden and for the pseudo-literal.
pub data IsTextAt (signature : SignatureValue) (context : Context) (k : ℕ) : List ℕ → Type 0 where
  shown : (e : EntryValue) (a : AtomValue) → IsVisible context k e → e.atom ≡ Of a → IsTextAt signature context k (literal_line signature k e.positive a e.kind)
  hidden : (e : EntryValue) → StandsAt context k e → IsHidden context k e → IsTextAt signature context k []
  pseudo_literal : (e : EntryValue) → StandsAt context k e → e.atom ≡ Any → IsTextAt signature context k []

-- The text at the first n positions, one after another.
abbrev pub IsTextOf : SignatureValue → Context → ℕ → List ℕ → Type 0
IsTextOf signature context zero text = text ≡ []
IsTextOf signature context (suc n) text =
    (before line : List ℕ) × IsTextOf signature context n before × IsTextAt signature context n line × (text ≡ before ++ line)

-- The default value is that of the entry at position 0.
abbrev pub default_line : Context → List ℕ
default_line [] = []
default_line (e ∷ es) = codes "% default " ++ (if e.positive then codes "true" else codes "false") ++ codes "\n"

-- The default line, and the visible literals.
abbrev pub IsModelText : List ℕ → SignatureValue → Context → List ℕ → Type 0
IsModelText name signature context text =
    (literals : List ℕ)
    × IsTextOf signature context (length context) literals
    × (text ≡ status_line (codes "Satisfiable") name ++ output_line (codes "start Model") name ++ default_line context ++ literals ++ output_line (codes "end Model") name)
