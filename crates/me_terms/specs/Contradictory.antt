-- Which literals contradict a context.
use Rattle.std.specs.Prelude.{◌≡◌, ℕ, Bool, not, ⊤}
use Rattle.me_terms.specs.Substitutions.{Substitution, apply_atom, Generalizes, IsVariant}
use Rattle.me_terms.specs.Values.{EntryValue}
use Rattle.me_terms.specs.Context.{Context, IsVisible}
use Rattle.me_terms.specs.declared.entry.Kind.{Kind}
use Rattle.me_terms.specs.declared.entry.Kind.TheVariants.{Universal, Parametric}
use Rattle.me_terms.specs.declared.atom.Literal.{Literal}
use Rattle.me_terms.specs.declared.atom.Pattern.{Pattern}
use Rattle.me_terms.specs.declared.atom.Pattern.TheVariants.{Any, Of}

-- The patterns have a common instance, their variables renamed apart: each has a substitution of its own.
abbrev pub Unifiable : Pattern → Pattern → Type 0
Unifiable Any q = ⊤
Unifiable (Of a) Any = ⊤
Unifiable (Of a) (Of b) = (s : Substitution) × (t : Substitution) × (apply_atom s a ≡ apply_atom t b)

-- Literals of opposite signs, of these kinds and patterns, contradict each other.
abbrev pub Clash : Kind → Pattern → Kind → Pattern → Type 0
Clash Universal p Universal q = Unifiable p q
Clash Universal p Parametric q = Generalizes p q
Clash Parametric p Universal q = Generalizes q p
Clash Parametric p Parametric q = IsVariant p q

-- A visible entry of the opposite sign contradicts what has this sign, kind and pattern.
abbrev pub Contradicts : Context → Bool → Kind → Pattern → Type 0
Contradicts context positive kind p =
    (k : ℕ) × (e : EntryValue) × IsVisible context k e × (e.positive ≡ not positive) × Clash e.kind e.atom kind p

-- The literal, of this kind, contradicts the context.
abbrev pub IsContradictory : Context → Literal → Kind → Type 0
IsContradictory context l kind = Contradicts context l.positive kind (Of l.atom)

-- No visible entry contradicts the context.
abbrev pub IsConsistent : Context → Type 0
IsConsistent context = (k : ℕ) (e : EntryValue) → IsVisible context k e → ¬ Contradicts context e.positive e.kind e.atom
