-- Which literals the entries of a context produce, and the interpretation that a context induces.
use Rattle.std.specs.Prelude.{◌≡◌, ℕ, true, ◌⊎◌}
use Rattle.std.specs.Bool.{MatchBool}
use Rattle.me_terms.specs.Terms.{AtomValue}
use Rattle.me_terms.specs.Substitutions.{Generalizes, IsStrictlyMoreGeneral}
use Rattle.me_terms.specs.Values.{EntryValue}
use Rattle.me_terms.specs.Context.{Context, IsVisible}
use Rattle.me_terms.specs.declared.entry.Kind.TheVariants.{Universal, Parametric}
use Rattle.me_terms.specs.declared.atom.Literal.{Literal}
use Rattle.me_terms.specs.declared.atom.Pattern.TheVariants.{Of}

-- A visible entry of either sign makes an exception at the atom to a Parametric entry e: a Universal one that generalizes the atom, or a Parametric one that does and that e is strictly more general than.
abbrev pub HasException : Context → EntryValue → AtomValue → Type 0
HasException context e a =
    (j : ℕ) × (f : EntryValue) × IsVisible context j f × Generalizes f.atom (Of a)
    × ((f.kind ≡ Universal) ⊎ ((f.kind ≡ Parametric) × IsStrictlyMoreGeneral e.atom f.atom))

-- The visible entry e at position k produces the literal.
pub record Produces (context : Context) (k : ℕ) (e : EntryValue) (l : Literal) : Type 0 where
  pub visible : IsVisible context k e
  pub same_sign : e.positive ≡ l.positive
  pub generalizes : Generalizes e.atom (Of l.atom)
  pub undisputed : (e.kind ≡ Universal) ⊎ (¬ HasException context e l.atom)

-- Some visible entry produces the literal.
abbrev pub IsProduced : Context → Literal → Type 0
IsProduced context l = (k : ℕ) × (e : EntryValue) × Produces context k e l

-- Some visible entry produces the ground atom.
abbrev pub IsInduced : Context → AtomValue → Type 0
IsInduced context a = IsProduced context (record { positive = true; atom = a })

-- The ground literal is true in the interpretation that the context induces.
abbrev pub IsTrueIn : Context → Literal → Type 0
IsTrueIn context l = MatchBool l.positive (IsInduced context l.atom) (¬ IsInduced context l.atom)
