-- Which entries a clause asserts.
use Rattle.std.specs.Prelude.{◌≡◌, ℕ, ◌⊎◌, List, [], slice_get, Some}
use Rattle.std.specs.List.{Contains}
use Rattle.me_terms.specs.Terms.{AtomValue}
use Rattle.me_terms.specs.Substitutions.{Family, Generalizes, IsVariant}
use Rattle.me_terms.specs.Measures.{canonical_literal}
use Rattle.me_terms.specs.Values.{ProblemValue, ClauseValue, EntryValue}
use Rattle.me_terms.specs.Context.{Context, StandsAt, IsVisible}
use Rattle.me_terms.specs.Contradictory.{IsContradictory}
use Rattle.me_terms.specs.Positions.{ClauseAt}
use Rattle.me_terms.specs.Unifier.{unified}
use Rattle.me_terms.specs.Assert.{IsSubsumed, HasVariant, MayAssert, asserted_entry, IsAssert}
use Rattle.me_terms.specs.declared.bounds.Bounds.{Bounds}
use Rattle.me_terms.specs.declared.entry.Kind.{Kind}
use Rattle.me_terms.specs.declared.entry.Kind.TheVariants.{Universal, Parametric}
use Rattle.me_terms.specs.declared.atom.Literal.{Literal}
use Rattle.me_terms.specs.declared.atom.Pattern.TheVariants.{Of}
use Rattle.me_unify.specs.Equations.{IsMostGeneral}
use Rattle.joint_unifiers.specs.ClauseUnifiers.{UnifierValue}

-- The clause, which stands at place c of a problem, asserts the entry by that place and the tuple.
abbrev pub Asserts : Bounds → Context → ClauseValue → ℕ → ℕ → List ℕ → EntryValue → Type 0
Asserts bounds context clause c place tuple e =
    (problem : ProblemValue) → ClauseAt problem c clause → IsAssert problem bounds context c place tuple e

-- The same by the clause's unifier u with the tuple, which leaves that place out.
pub record AssertsBy (u : UnifierValue) (bounds : Bounds) (context : Context) (c place : ℕ) (e : EntryValue) : Type 0 where
  pub literal : Literal
  pub family : Family
  pub literal_at : slice_get u.literals place ≡ Some literal
  pub general : IsMostGeneral u.equations family
  pub no_remainder : u.remainder ≡ []
  pub entry : e ≡ asserted_entry context c place u.tuple (canonical_literal (unified family literal))
  pub allowed : MayAssert bounds context (canonical_literal (unified family literal)) e.kind

-- The entry, where it is visible, makes an Assert of the literal with this kind needless: it is Universal and generalizes the literal, or the literal is to be Parametric and is its variant.
abbrev pub MakesNeedless : EntryValue → Literal → Kind → Type 0
MakesNeedless e l kind =
    (e.positive ≡ l.positive) × (((e.kind ≡ Universal) × Generalizes e.atom (Of l.atom)) ⊎ ((kind ≡ Parametric) × IsVariant e.atom (Of l.atom)))

-- At position k an entry is visible that does.
abbrev pub CoversAt : Context → ℕ → Literal → Kind → Type 0
CoversAt context k l kind = (e : EntryValue) × IsVisible context k e × MakesNeedless e l kind

-- At position k a Universal entry is visible, of either sign, that generalizes the atom.
abbrev pub FixesAt : Context → ℕ → AtomValue → Type 0
FixesAt context k a = (e : EntryValue) × IsVisible context k e × (e.kind ≡ Universal) × Generalizes e.atom (Of a)

-- At position k an entry, hidden or not, has this very atom.
abbrev pub HasAtomAt : Context → ℕ → AtomValue → Type 0
HasAtomAt context k a = (e : EntryValue) × StandsAt context k e × (e.atom ≡ Of a)

-- P holds of one of the positions.
abbrev pub HoldsAmong : (ℕ → Type 0) → List ℕ → Type 0
HoldsAmong P ks = (k : ℕ) × Contains ks k × P k

-- The literal may be asserted with this kind, as far as the entries of the context say.
pub record MayBeAsserted (context : Context) (l : Literal) (kind : Kind) : Type 0 where
  pub consistent : ¬ IsContradictory context l kind
  pub not_subsumed : ¬ IsSubsumed context l
  pub no_variant : kind ≡ Parametric → ¬ HasVariant context l
