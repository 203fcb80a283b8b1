-- Which lists of entries are contexts, and which contexts are consistent.
use Rattle.std.specs.Prelude.{Bool, true, false, [], ◌∷◌}
use Rattle.me_terms.specs.Terms.{AtomValue}
use Rattle.me_terms.specs.Values.{EntryValue, SplitLeft}
use Rattle.me_terms.specs.Context.{Context, pseudo, IsContext}
use Rattle.me_terms.specs.Contradictory.{IsConsistent}
use Rattle.me_terms.specs.declared.entry.Kind.{Kind}
use Rattle.me_terms.specs.declared.entry.Kind.TheVariants.{Universal, Parametric}
use Rattle.me_laws_examples.specs.Letters.{a, x0, x1, p, p_of, entry}

-- the pseudo-literal, Universal p(X0), and then the given entry
abbrev pub third : EntryValue → Context
third e = pseudo false ∷ entry true (p_of x0) Universal SplitLeft ∷ e ∷ []

-- the pseudo-literal and two entries of opposite signs, with these atoms and kinds
abbrev pub opposed : AtomValue → Kind → AtomValue → Kind → Context
opposed s one t other = pseudo false ∷ entry true s one SplitLeft ∷ entry false t other SplitLeft ∷ []

-- A context begins with the pseudo-literal of either sign, which stands nowhere else. Its atoms are canonical, and what is ground is Universal. It is consistent where no entry contradicts another, whichever comes first.
pub record Contexts : Type 0 where
  pub of_either_sign : (positive : Bool) → IsContext (pseudo positive ∷ [])
  pub open_universal : IsContext (third (entry true (p x0 x1) Universal SplitLeft))
  pub open_parametric : IsContext (third (entry true (p x0 x1) Parametric SplitLeft))
  pub ground_universal : IsContext (third (entry true (p a a) Universal SplitLeft))
  pub ground_parametric : ¬ IsContext (third (entry true (p a a) Parametric SplitLeft))
  pub not_canonical : ¬ IsContext (third (entry true (p x1 x0) Universal SplitLeft))
  pub pseudo_again : ¬ IsContext (third (pseudo false))
  pub pseudo_second : ¬ IsContext (pseudo false ∷ pseudo false ∷ [])
  pub no_entry : ¬ IsContext []
  pub no_pseudo : ¬ IsContext (entry false (p_of x0) Universal SplitLeft ∷ [])
  pub universal_pair : ¬ IsConsistent (opposed (p x0 a) Universal (p a x0) Universal)
  pub parametric_pair : ¬ IsConsistent (opposed (p x0 x1) Parametric (p x0 x1) Parametric)
  pub universal_first : ¬ IsConsistent (opposed (p x0 x1) Universal (p x0 a) Parametric)
  pub universal_second : ¬ IsConsistent (opposed (p x0 a) Parametric (p x0 x1) Universal)
  pub parametric_above : IsConsistent (opposed (p x0 x1) Parametric (p x0 x0) Parametric)
  pub parametric_exception : IsConsistent (opposed (p x0 x1) Parametric (p a a) Universal)
