-- Which literals are refused, said by what can be looked up: the entries of the very atom, and the entries with variables.
use Rattle.std.specs.Prelude.{◌≡◌, ℕ, not, ◌⊎◌, ◌↔◌, IsTrue}
use Rattle.me_terms.specs.Terms.{AtomValue}
use Rattle.me_terms.specs.Variables.{are_ground, is_canonical}
use Rattle.me_terms.specs.Substitutions.{Generalizes}
use Rattle.me_terms.specs.Values.{EntryValue}
use Rattle.me_terms.specs.Context.{Context, StandsAt, IsContext, IsAtomWith, IsVisible}
use Rattle.me_terms.specs.Contradictory.{Unifiable}
use Rattle.me_terms.specs.declared.entry.Kind.{Kind}
use Rattle.me_terms.specs.declared.entry.Kind.TheVariants.{Universal, Parametric}
use Rattle.me_terms.specs.declared.atom.Literal.{Literal}
use Rattle.me_terms.specs.declared.atom.Pattern.TheVariants.{Of}
use Rattle.me_laws_increments.specs.Replacement.{IsFixed}
use Rattle.me_laws_increments.specs.Refusals.{Refuses}

-- Some entry, hidden or not, has this very atom.
abbrev pub StandsSomewhere : Context → AtomValue → Type 0
StandsSomewhere context a = (k : ℕ) × (e : EntryValue) × StandsAt context k e × (e.atom ≡ Of a)

-- A visible entry of either sign has this very atom.
abbrev pub IsSeen : Context → AtomValue → Type 0
IsSeen context a = (k : ℕ) × (e : EntryValue) × IsVisible context k e × (e.atom ≡ Of a)

-- A visible Universal entry with variables generalizes the atom.
abbrev pub IsBelowVariables : Context → AtomValue → Type 0
IsBelowVariables context a =
    (k : ℕ) × (e : EntryValue) × IsVisible context k e × (e.kind ≡ Universal) × IsAtomWith (λ b. ¬ IsTrue (are_ground b.args)) e.atom × Generalizes e.atom (Of a)

-- A visible Universal entry of the other sign unifies with the literal.
abbrev pub MeetsUniversal : Context → Literal → Type 0
MeetsUniversal context l =
    (k : ℕ) × (e : EntryValue) × IsVisible context k e × (e.kind ≡ Universal) × (e.positive ≡ not l.positive) × Unifiable e.atom (Of l.atom)

-- The literal generalizes a visible Parametric entry of the other sign.
abbrev pub IsAboveParametric : Context → Literal → Type 0
IsAboveParametric context l =
    (k : ℕ) × (e : EntryValue) × IsVisible context k e × (e.kind ≡ Parametric) × (e.positive ≡ not l.positive) × Generalizes (Of l.atom) e.atom

-- A literal with a fixed atom is refused, whatever its sign and kind.
abbrev pub FixedIsRefused : Type 0
FixedIsRefused = (context : Context) (l : Literal) (kind : Kind) → IsFixed context l.atom → Refuses context l kind

-- A ground literal, which is Universal, is refused exactly where its atom is fixed.
abbrev pub GroundRefusals : Type 0
GroundRefusals = (context : Context) (l : Literal) → IsContext context → IsTrue (are_ground l.atom.args) → Refuses context l Universal ↔ IsFixed context l.atom

-- A canonical Parametric literal is refused exactly where its atom is fixed or a visible entry has it.
abbrev pub ParametricRefusals : Type 0
ParametricRefusals = (context : Context) (l : Literal) → IsContext context → IsTrue (is_canonical l.atom) → Refuses context l Parametric ↔ (IsFixed context l.atom ⊎ IsSeen context l.atom)

-- A Universal literal is refused exactly where its atom is fixed, or it unifies with a Universal entry of the other sign or generalizes a Parametric one.
abbrev pub UniversalRefusals : Type 0
UniversalRefusals = (context : Context) (l : Literal) → Refuses context l Universal ↔ (IsFixed context l.atom ⊎ (MeetsUniversal context l ⊎ IsAboveParametric context l))

-- A ground atom is fixed exactly where an entry has it, hidden or not, or a Universal one with variables generalizes it.
abbrev pub GroundIsFixed : Type 0
GroundIsFixed = (context : Context) (a : AtomValue) → IsContext context → IsTrue (are_ground a.args) → IsFixed context a ↔ (StandsSomewhere context a ⊎ IsBelowVariables context a)
