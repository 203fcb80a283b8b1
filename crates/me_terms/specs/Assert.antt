-- Assert: which entries follow from a clause and a context.
use Rattle.std.specs.Prelude.{◌≡◌, ℕ, Bool, true, false, ◌||◌, List, [], slice_get, Option, Some, None, if◌then◌else◌}
use Rattle.std.specs.List.{list_all}
use Rattle.me_terms.specs.Variables.{are_ground}
use Rattle.me_terms.specs.Substitutions.{Family, Generalizes, IsVariant}
use Rattle.me_terms.specs.Measures.{canonical_literal}
use Rattle.me_terms.specs.Values.{ProblemValue, ClauseValue, EntryValue, Asserted}
use Rattle.me_terms.specs.Context.{Context, IsVisible}
use Rattle.me_terms.specs.Contradictory.{IsContradictory}
use Rattle.me_terms.specs.Positions.{ClauseAt, positions_of, entry_at}
use Rattle.me_terms.specs.Unifier.{IsContextUnifier, unified}
use Rattle.me_terms.specs.Remainder.{remainder}
use Rattle.me_terms.specs.Fits.{Fits}
use Rattle.me_terms.specs.declared.bounds.Bounds.{Bounds}
use Rattle.me_terms.specs.declared.entry.Kind.{Kind}
use Rattle.me_terms.specs.declared.entry.Kind.TheVariants.{Universal, Parametric}
use Rattle.me_terms.specs.declared.atom.Literal.{Literal}
use Rattle.me_terms.specs.declared.atom.Pattern.TheVariants.{Of}

-- The kind is Universal.
abbrev pub is_universal : Kind → Bool
is_universal Universal = true
is_universal Parametric = false

-- The entry that is used, if one is, is Universal.
abbrev pub uses_universal : Option EntryValue → Bool
uses_universal None = true
uses_universal (Some e) = is_universal e.kind

-- Universal where all used entries are or the literal is ground.
abbrev pub asserted_kind : Context → List (Option ℕ) → Literal → Kind
asserted_kind context positions l =
    if list_all (λ k. uses_universal (entry_at context k)) positions || are_ground l.atom.args then Universal else Parametric

-- A visible Universal entry of the literal's sign generalizes it.
abbrev pub IsSubsumed : Context → Literal → Type 0
IsSubsumed context l =
    (k : ℕ) × (e : EntryValue) × IsVisible context k e × (e.kind ≡ Universal) × (e.positive ≡ l.positive) × Generalizes e.atom (Of l.atom)

-- A visible entry of the literal's sign is a variant of it.
abbrev pub HasVariant : Context → Literal → Type 0
HasVariant context l =
    (k : ℕ) × (e : EntryValue) × IsVisible context k e × (e.positive ≡ l.positive) × IsVariant e.atom (Of l.atom)

-- The literal may be asserted with this kind.
pub record MayAssert (bounds : Bounds) (context : Context) (l : Literal) (kind : Kind) : Type 0 where
  pub fits : Fits bounds l
  pub consistent : ¬ IsContradictory context l kind
  pub not_subsumed : ¬ IsSubsumed context l
  pub no_variant : kind ≡ Parametric → ¬ HasVariant context l

-- The entry that an Assert adds, for the literal at that place under the unifier.
abbrev pub asserted_entry : Context → ℕ → ℕ → List ℕ → Literal → EntryValue
asserted_entry context c place tuple l = record {
  positive = l.positive;
  atom = Of l.atom;
  kind = asserted_kind context (positions_of (Some place) tuple) l;
  reason = Asserted c place tuple;
}

-- The entry e may be asserted by clause c, a place in it and a tuple of positions for its other places.
pub record IsAssert (problem : ProblemValue) (bounds : Bounds) (context : Context) (c place : ℕ) (tuple : List ℕ) (e : EntryValue) : Type 0 where
  pub clause : ClauseValue
  pub literal : Literal
  pub family : Family
  pub clause_at : ClauseAt problem c clause
  pub literal_at : slice_get clause.literals place ≡ Some literal
  pub unifier : IsContextUnifier context clause.literals (Some place) tuple family
  pub no_remainder : remainder context (positions_of (Some place) tuple) family ≡ []
  pub entry : e ≡ asserted_entry context c place tuple (canonical_literal (unified family literal))
  pub allowed : MayAssert bounds context (canonical_literal (unified family literal)) e.kind

-- Some entry may be asserted.
abbrev pub HasAssert : ProblemValue → Bounds → Context → Type 0
HasAssert problem bounds context =
    (c place : ℕ) × (tuple : List ℕ) × (e : EntryValue) × IsAssert problem bounds context c place tuple e
