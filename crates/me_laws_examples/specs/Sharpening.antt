-- The clause p(X), beside the parametric p(X0).
use Rattle.std.specs.Prelude.{true, false, [], ◌∷◌}
use Rattle.me_terms.specs.Values.{EntryValue, Asserted, SplitLeft}
use Rattle.me_terms.specs.Context.{Context, pseudo}
use Rattle.me_terms.specs.Assert.{IsAssert, MayAssert}
use Rattle.me_terms.specs.declared.entry.Kind.TheVariants.{Universal, Parametric}
use Rattle.me_laws_examples.specs.Letters.{x0, p_of, literal, entry}
use Rattle.me_laws_examples.specs.SmallAnswers.{p_of_all, usual}

-- p(X0) with the given entry before it
abbrev pub beside : EntryValue → Context
beside e = pseudo false ∷ e ∷ []

abbrev pub parametric_p : EntryValue
parametric_p = entry true (p_of x0) Parametric SplitLeft

abbrev pub universal_p : EntryValue
universal_p = entry true (p_of x0) Universal (Asserted 0 0 [])

-- The Universal p(X0) may be asserted beside the Parametric one, and the Parametric one may not; and beside the Universal one neither may.
pub record Sharpening : Type 0 where
  pub universal : IsAssert p_of_all usual (beside parametric_p) 0 0 [] universal_p
  pub parametric : ¬ MayAssert usual (beside parametric_p) (literal true (p_of x0)) Parametric
  pub again : ¬ MayAssert usual (beside universal_p) (literal true (p_of x0)) Universal
  pub weaker : ¬ MayAssert usual (beside universal_p) (literal true (p_of x0)) Parametric
