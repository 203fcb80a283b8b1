-- What the unifier of some places of a tuple decides of every solution of more places.
use Rattle.std.specs.Prelude.{◌≡◌, ℕ, ◌≤◌, List, Option, slice_get, Some, IsTrue}
use Rattle.me_terms.specs.Substitutions.{Substitution, Family, Generalizes, apply_term}
use Rattle.me_terms.specs.Measures.{literal_depth, literal_weight, canonical_literal}
use Rattle.me_terms.specs.Values.{EntryValue}
use Rattle.me_terms.specs.Context.{Context}
use Rattle.me_terms.specs.Positions.{StandsAgainst}
use Rattle.me_terms.specs.Unifier.{Solves, IsUnifier, unified}
use Rattle.me_terms.specs.Remainder.{remains_at}
use Rattle.me_terms.specs.Produces.{HasException}
use Rattle.me_terms.specs.Productive.{IsProductive}
use Rattle.me_terms.specs.Fits.{Fits}
use Rattle.me_terms.specs.Assert.{MayAssert}
use Rattle.me_terms.specs.declared.bounds.Bounds.{Bounds}
use Rattle.me_terms.specs.declared.entry.Kind.{Kind}
use Rattle.me_terms.specs.declared.entry.Kind.TheVariants.{Universal}
use Rattle.me_terms.specs.declared.atom.Literal.{Literal}
use Rattle.me_terms.specs.declared.atom.Pattern.TheVariants.{Of}
use Rattle.me_laws_increments.specs.Replacement.{IsFixed}

-- Each position of the part stands at the same place of the whole.
abbrev pub IsPart : List (Option ℕ) → List (Option ℕ) → Type 0
IsPart part whole = (i k : ℕ) → slice_get part i ≡ Some (Some k) → slice_get whole i ≡ Some (Some k)

-- v is u, followed by one substitution.
abbrev pub Extends : Family → Family → Type 0
Extends u v = (r : Substitution) × ((space x : ℕ) → apply_term r (u space x) ≡ v space x)

-- Each solution of the whole solves its parts.
abbrev pub WholeSolvesParts : Type 0
WholeSolvesParts = (context : Context) (literals : List Literal) (part whole : List (Option ℕ)) (v : Family) → IsPart part whole → Solves context literals whole v → Solves context literals part v

-- Each solution of the whole extends the unifier of each of its parts.
abbrev pub WholeExtendsParts : Type 0
WholeExtendsParts = (context : Context) (literals : List Literal) (part whole : List (Option ℕ)) (u v : Family) → IsPart part whole → IsUnifier context literals part u → Solves context literals whole v → Extends u v

-- Under what extends a family each literal is an instance of what it is under the family.
abbrev pub LiteralsComeDown : Type 0
LiteralsComeDown = (u v : Family) (l : Literal) → Extends u v → Generalizes (Of (unified u l).atom) (Of (unified v l).atom)

-- Under what extends a family each literal is no shallower and no lighter.
abbrev pub MeasuresGrow : Type 0
MeasuresGrow = (u v : Family) (l : Literal) → Extends u v → (literal_depth (unified u l) ≤ literal_depth (unified v l)) × (literal_weight (unified u l) ≤ literal_weight (unified v l))

-- What remains under a family remains under what extends it.
abbrev pub RemainingStays : Type 0
RemainingStays = (u v : Family) (entry : Option EntryValue) (space : ℕ) → Extends u v → IsTrue (remains_at entry (u space)) → IsTrue (remains_at entry (v space))

-- Where the whole is productive its parts are.
abbrev pub ProductionComesDown : Type 0
ProductionComesDown = (context : Context) (literals : List Literal) (part whole : List (Option ℕ)) (u v : Family) → IsPart part whole → Extends u v → Solves context literals part u → IsProductive context literals whole v → IsProductive context literals part u

-- An entry that is not Universal and has an exception at its literal under a family leaves no productive one among those that extend it.
abbrev pub ExceptedIsUnproductive : Type 0
ExceptedIsUnproductive = (context : Context) (literals : List Literal) (positions : List (Option ℕ)) (u v : Family) (i k : ℕ) (l : Literal) (e : EntryValue) → Extends u v → StandsAgainst context literals positions i l k e → ¬ (e.kind ≡ Universal) → HasException context e (unified u l).atom → ¬ IsProductive context literals positions v

-- A literal whose atom is fixed under a family has a fixed one under what extends it.
abbrev pub FixedComesDown : Type 0
FixedComesDown = (context : Context) (u v : Family) (l : Literal) → Extends u v → IsFixed context (unified u l).atom → IsFixed context (canonical_literal (unified v l)).atom

-- A literal whose atom is fixed under a family is not asserted under what extends it, with either kind.
abbrev pub FixedIsNotAsserted : Type 0
FixedIsNotAsserted = (bounds : Bounds) (context : Context) (u v : Family) (l : Literal) (kind : Kind) → Extends u v → IsFixed context (unified u l).atom → ¬ MayAssert bounds context (canonical_literal (unified v l)) kind

-- A literal that doesn't fit under a family doesn't under what extends it.
abbrev pub UnfitStaysUnfit : Type 0
UnfitStaysUnfit = (bounds : Bounds) (u v : Family) (l : Literal) → Extends u v → ¬ Fits bounds (unified u l) → ¬ Fits bounds (canonical_literal (unified v l))
