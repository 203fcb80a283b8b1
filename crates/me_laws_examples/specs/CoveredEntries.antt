-- Which entries a Universal one covers.
use Rattle.std.specs.Prelude.{Bool, true, false}
use Rattle.me_terms.specs.Terms.{AtomValue}
use Rattle.me_terms.specs.Values.{EntryValue, ReasonValue, SplitLeft}
use Rattle.me_terms.specs.Context.{pseudo, Covers}
use Rattle.me_terms.specs.declared.entry.Kind.{Kind}
use Rattle.me_terms.specs.declared.entry.Kind.TheVariants.{Universal, Parametric}
use Rattle.me_laws_examples.specs.Letters.{a, x0, x1, p, entry}

-- p(X0,X1) as a Universal entry
abbrev pub of_all_pairs : EntryValue
of_all_pairs = entry true (p x0 x1) Universal SplitLeft

-- A Universal entry covers what it generalizes of its sign, whatever its kind, and so itself and its variants; but no entry of the other sign, none that is more general, and no pseudo-literal. A Parametric entry covers none, and neither does a pseudo-literal.
pub record CoveredEntries : Type 0 where
  pub less_general : (kind : Kind) (why : ReasonValue) → Covers of_all_pairs (entry true (p a x0) kind why)
  pub itself : Covers of_all_pairs of_all_pairs
  pub variant : Covers (entry true (p a x0) Universal SplitLeft) (entry true (p a x1) Parametric SplitLeft)
  pub other_sign : ¬ Covers of_all_pairs (entry false (p a x0) Parametric SplitLeft)
  pub more_general : ¬ Covers (entry true (p a x0) Universal SplitLeft) of_all_pairs
  pub no_pseudo : ¬ Covers of_all_pairs (pseudo true)
  pub by_parametric : (positive : Bool) (atom : AtomValue) (why : ReasonValue) (e : EntryValue) → ¬ Covers (entry positive atom Parametric why) e
  pub by_pseudo : (positive : Bool) (e : EntryValue) → ¬ Covers (pseudo positive) e
