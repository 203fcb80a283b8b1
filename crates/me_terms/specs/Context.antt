-- Contexts: the entries, and which of them are hidden.
use Rattle.std.specs.Prelude.{◌≡◌, ℕ, ◌<◌, Bool, List, [], ◌∷◌, ◌++◌, slice_get, Some, IsTrue}
use Rattle.me_terms.specs.Terms.{AtomValue}
use Rattle.me_terms.specs.Variables.{is_canonical, are_ground}
use Rattle.me_terms.specs.Substitutions.{Generalizes}
use Rattle.me_terms.specs.Values.{EntryValue, Pseudo}
use Rattle.me_terms.specs.declared.entry.Kind.TheVariants.{Universal, Parametric}
use Rattle.me_terms.specs.declared.atom.Pattern.{Pattern}
use Rattle.me_terms.specs.declared.atom.Pattern.TheVariants.{Any, Of}

-- A context is a list of entries. The position of an entry is its place in the list, from 0.
abbrev pub Context : Type 0
Context = List EntryValue

-- The entry at position k is e.
abbrev pub StandsAt : Context → ℕ → EntryValue → Type 0
StandsAt context k e = slice_get context k ≡ Some e

-- The pseudo-literal of a sign, which speaks of every atom.
abbrev pub pseudo : Bool → EntryValue
pseudo positive = record { positive = positive; atom = Any; kind = Parametric; reason = Pseudo }

-- The pattern is an atom of which P holds.
abbrev pub IsAtomWith : (AtomValue → Type 0) → Pattern → Type 0
IsAtomWith P Any = ⊥
IsAtomWith P (Of a) = P a

-- The entry is a literal with a canonical atom, Universal where it is ground.
abbrev pub IsLiteralEntry : EntryValue → Type 0
IsLiteralEntry e = IsAtomWith (λ a. IsTrue (is_canonical a) × (IsTrue (are_ground a.args) → e.kind ≡ Universal)) e.atom

-- Position 0 has the pseudo-literal, of either sign, and every other position a literal.
pub record IsContext (context : Context) : Type 0 where
  pub first : (positive : Bool) × StandsAt context 0 (pseudo positive)
  pub later : (k : ℕ) (e : EntryValue) → 0 < k → StandsAt context k e → IsLiteralEntry e

-- The first entry is Universal, has the other's sign, and generalizes it.
pub record Covers (universal entry : EntryValue) : Type 0 where
  pub is_universal : universal.kind ≡ Universal
  pub same_sign : universal.positive ≡ entry.positive
  pub generalizes : Generalizes universal.atom entry.atom

-- A later entry, at position j, covers e, the entry at position k.
pub record Hides (context : Context) (k : ℕ) (e : EntryValue) (j : ℕ) (later : EntryValue) : Type 0 where
  pub is_later : k < j
  pub stands : StandsAt context j later
  pub covers : Covers later e

-- The entry e at position k is hidden.
abbrev pub IsHidden : Context → ℕ → EntryValue → Type 0
IsHidden context k e = (j : ℕ) × (later : EntryValue) × Hides context k e j later

-- The entry at position k is e, and it is not hidden.
abbrev pub IsVisible : Context → ℕ → EntryValue → Type 0
IsVisible context k e = StandsAt context k e × ¬ IsHidden context k e

-- The context with an entry more, at its end.
abbrev pub add : Context → EntryValue → Context
add context e = context ++ e ∷ []
