-- Which entries produce a literal, by position and by their parts.
use Rattle.std.specs.Prelude.{◌≡◌, ℕ, ◌<◌, Bool, ◌⊎◌}
use Rattle.me_terms.specs.Terms.{AtomValue}
use Rattle.me_terms.specs.Substitutions.{Generalizes, IsStrictlyMoreGeneral}
use Rattle.me_terms.specs.Values.{EntryValue}
use Rattle.me_terms.specs.Context.{Context, IsVisible}
use Rattle.me_terms.specs.Produces.{HasException, Produces}
use Rattle.me_terms.specs.declared.entry.Kind.TheVariants.{Universal, Parametric}
use Rattle.me_terms.specs.declared.atom.Pattern.TheVariants.{Of}

-- The entry at position k is visible and produces the literal of this sign and atom.
abbrev pub ProducesAt : Context → ℕ → Bool → AtomValue → Type 0
ProducesAt context k positive a =
    (e : EntryValue) × Produces context k e (record { positive = positive; atom = a })

-- The entry at position k produces the literal, and none before it does.
pub record IsFirstProducer (context : Context) (k : ℕ) (positive : Bool) (a : AtomValue) : Type 0 where
  pub produces : ProducesAt context k positive a
  pub first : (j : ℕ) → j < k → ¬ ProducesAt context j positive a

-- The entry f, where it is visible, makes an exception to the Parametric entry e at the atom.
pub record IsException (e f : EntryValue) (a : AtomValue) : Type 0 where
  pub generalizes : Generalizes f.atom (Of a)
  pub stronger : (f.kind ≡ Universal) ⊎ ((f.kind ≡ Parametric) × IsStrictlyMoreGeneral e.atom f.atom)

-- At position j an entry is visible that makes an exception to e at the atom.
abbrev pub ExceptsAt : Context → ℕ → EntryValue → AtomValue → Type 0
ExceptsAt context j e a = (f : EntryValue) × IsVisible context j f × IsException e f a

-- The entry e produces the literal, where it is visible.
pub record Yields (context : Context) (e : EntryValue) (positive : Bool) (a : AtomValue) : Type 0 where
  pub same_sign : e.positive ≡ positive
  pub generalizes : Generalizes e.atom (Of a)
  pub undisputed : (e.kind ≡ Universal) ⊎ (¬ HasException context e a)
