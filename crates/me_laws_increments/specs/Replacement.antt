-- What stands in for an entry that is hidden, and which atoms are fixed for good.
use Rattle.std.specs.Prelude.{◌≡◌, ℕ, Bool, ◌⊎◌, ◌++◌}
use Rattle.me_terms.specs.Terms.{AtomValue}
use Rattle.me_terms.specs.Substitutions.{Generalizes}
use Rattle.me_terms.specs.Values.{EntryValue}
use Rattle.me_terms.specs.Context.{Context, StandsAt, IsHidden, IsVisible}
use Rattle.me_terms.specs.declared.entry.Kind.TheVariants.{Universal}
use Rattle.me_terms.specs.declared.atom.Pattern.{Pattern}
use Rattle.me_terms.specs.declared.atom.Pattern.TheVariants.{Of}

-- A visible entry covers what has this sign and pattern: it is Universal, of this sign, and generalizes the pattern.
abbrev pub IsCovered : Context → Bool → Pattern → Type 0
IsCovered context positive p =
    (k : ℕ) × (e : EntryValue) × IsVisible context k e × (e.kind ≡ Universal) × (e.positive ≡ positive) × Generalizes e.atom p

-- The atom is fixed: a visible Universal entry, of either sign, generalizes it.
abbrev pub IsFixed : Context → AtomValue → Type 0
IsFixed context a = (positive : Bool) × IsCovered context positive (Of a)

-- A hidden entry is covered by a visible one.
abbrev pub HiddenIsCovered : Type 0
HiddenIsCovered = (context : Context) (k : ℕ) (e : EntryValue) → StandsAt context k e → IsHidden context k e → IsCovered context e.positive e.atom

-- What is hidden stays hidden, whatever comes after.
abbrev pub HiddenStaysHidden : Type 0
HiddenStaysHidden = (context more : Context) (k : ℕ) (e : EntryValue) → IsHidden context k e → IsHidden (context ++ more) k e

-- A visible entry stays visible, or a visible one covers it later.
abbrev pub VisibleOrCovered : Type 0
VisibleOrCovered = (context more : Context) (k : ℕ) (e : EntryValue) → IsVisible context k e → IsVisible (context ++ more) k e ⊎ IsCovered (context ++ more) e.positive e.atom

-- What is covered stays covered.
abbrev pub CoveredStaysCovered : Type 0
CoveredStaysCovered = (context more : Context) (positive : Bool) (p : Pattern) → IsCovered context positive p → IsCovered (context ++ more) positive p

-- A fixed atom stays fixed.
abbrev pub FixedStaysFixed : Type 0
FixedStaysFixed = (context more : Context) (a : AtomValue) → IsFixed context a → IsFixed (context ++ more) a
