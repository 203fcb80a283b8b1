-- How often an atom stands in a grown context.
use Rattle.std.specs.Prelude.{◌≡◌, ℕ, ◌<◌, List}
use Rattle.me_terms.specs.Substitutions.{IsVariant}
use Rattle.me_terms.specs.Values.{ProblemValue, EntryValue}
use Rattle.me_terms.specs.Context.{Context, StandsAt}
use Rattle.me_terms.specs.Assert.{IsAssert}
use Rattle.me_terms.specs.Split.{IsSplit}
use Rattle.me_terms.specs.Grown.{IsGrown}
use Rattle.me_terms.specs.declared.bounds.Bounds.{Bounds}
use Rattle.me_terms.specs.declared.entry.Kind.TheVariants.{Universal, Parametric}
use Rattle.me_terms.specs.declared.atom.Literal.{Literal}
use Rattle.me_terms.specs.declared.atom.Pattern.TheVariants.{Of}

-- A Parametric entry and a Universal one of its sign.
pub record Sharpens (earlier later : EntryValue) : Type 0 where
  pub parametric : earlier.kind ≡ Parametric
  pub universal : later.kind ≡ Universal
  pub same_sign : earlier.positive ≡ later.positive

-- Where an atom stands at two positions, up to variants, the later entry sharpens the earlier.
abbrev pub RepeatsSharpen : Context → Type 0
RepeatsSharpen context = (j k : ℕ) (e f : EntryValue) → j < k → StandsAt context j e → StandsAt context k f → IsVariant e.atom f.atom → Sharpens e f

-- No atom stands at three positions, up to variants.
abbrev pub NoneThrice : Context → Type 0
NoneThrice context = (i j k : ℕ) (d e f : EntryValue) → i < j → j < k → StandsAt context i d → StandsAt context j e → StandsAt context k f → IsVariant d.atom e.atom → ¬ IsVariant e.atom f.atom

-- The atom stands nowhere in the context, up to variants.
abbrev pub StandsNowhere : Context → Literal → Type 0
StandsNowhere context l = (k : ℕ) (f : EntryValue) → StandsAt context k f → ¬ IsVariant f.atom (Of l.atom)

-- Up to variants an atom stands at most twice in a grown context. Where it stands twice, both entries have one sign, the earlier is Parametric and the later Universal. So it is since an asserted entry that repeats an atom is Universal and repeats a single Parametric entry of its sign, and the atom of a Split is new.
pub record AtomsStandTwice : Type 0 where
  pub repeats_sharpen : (problem : ProblemValue) (bounds : Bounds) (context : Context) → IsGrown problem bounds context → RepeatsSharpen context
  pub none_thrice : (problem : ProblemValue) (bounds : Bounds) (context : Context) → IsGrown problem bounds context → NoneThrice context
  pub assert_sharpens : (problem : ProblemValue) (bounds : Bounds) (context : Context) (c place : ℕ) (tuple : List ℕ) (e : EntryValue) → IsAssert problem bounds context c place tuple e → (k : ℕ) (f : EntryValue) → StandsAt context k f → IsVariant f.atom e.atom → Sharpens f e
  pub assert_repeats_one : (problem : ProblemValue) (bounds : Bounds) (context : Context) (e : EntryValue) → IsGrown problem bounds context → (j k : ℕ) (f g : EntryValue) → StandsAt context j f → StandsAt context k g → IsVariant f.atom e.atom → IsVariant g.atom e.atom → (c place : ℕ) (tuple : List ℕ) → IsAssert problem bounds context c place tuple e → j ≡ k
  pub split_is_new : (problem : ProblemValue) (bounds : Bounds) (context : Context) (c place size : ℕ) (tuple : List ℕ) (l : Literal) → IsGrown problem bounds context → IsSplit problem bounds context c place tuple size l → StandsNowhere context l
