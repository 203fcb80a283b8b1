-- The entries that an Assert and a Split add, and their kinds.
use Rattle.std.specs.Prelude.{◌≡◌, true, false, [], ◌∷◌, Some, None}
use Rattle.me_terms.specs.Values.{Asserted, SplitLeft, SplitRight}
use Rattle.me_terms.specs.Context.{Context, pseudo, add}
use Rattle.me_terms.specs.Assert.{asserted_kind, asserted_entry}
use Rattle.me_terms.specs.Split.{split_kind}
use Rattle.me_terms.specs.Grown.{start, left_of, right_of}
use Rattle.me_terms.specs.declared.bounds.Start.TheVariants.{Negative, Positive}
use Rattle.me_terms.specs.declared.entry.Kind.TheVariants.{Universal, Parametric}
use Rattle.me_terms.specs.declared.atom.Literal.{Literal}
use Rattle.me_laws_examples.specs.Letters.{a, x0, p_of, q_of, literal, entry}

-- the universal p(X0) at position 1, and the parametric q(X0) at position 2
abbrev pub of_both_kinds : Context
of_both_kinds = pseudo false ∷ entry true (p_of x0) Universal SplitLeft ∷ entry true (q_of x0) Parametric SplitLeft ∷ []

abbrev pub open_literal : Literal
open_literal = literal false (p_of x0)

abbrev pub ground_literal : Literal
ground_literal = literal false (p_of a)

-- An Assert is Universal where it uses Universal entries alone, or none, and where it is ground; a Split only where it is ground. What is added stands last, with its reason.
pub record AddedEntries : Type 0 where
  pub by_none : asserted_kind of_both_kinds (None ∷ []) open_literal ≡ Universal
  pub by_universal : asserted_kind of_both_kinds (Some 1 ∷ None ∷ Some 1 ∷ []) open_literal ≡ Universal
  pub by_parametric : asserted_kind of_both_kinds (Some 1 ∷ Some 2 ∷ None ∷ []) open_literal ≡ Parametric
  pub parametric_first : asserted_kind of_both_kinds (Some 2 ∷ Some 1 ∷ None ∷ []) open_literal ≡ Parametric
  pub by_pseudo : asserted_kind of_both_kinds (Some 0 ∷ None ∷ []) open_literal ≡ Parametric
  pub ground_by_parametric : asserted_kind of_both_kinds (Some 2 ∷ None ∷ []) ground_literal ≡ Universal
  pub split_open : split_kind open_literal ≡ Parametric
  pub split_ground : split_kind ground_literal ≡ Universal
  pub asserted : asserted_entry of_both_kinds 4 1 (2 ∷ []) open_literal ≡ entry false (p_of x0) Parametric (Asserted 4 1 (2 ∷ []))
  pub starts_false : start Negative ≡ pseudo false ∷ []
  pub starts_true : start Positive ≡ pseudo true ∷ []
  pub added_last : add (start Negative) (entry true (p_of a) Universal SplitLeft) ≡ pseudo false ∷ entry true (p_of a) Universal SplitLeft ∷ []
  pub left : left_of (start Negative) open_literal Parametric ≡ pseudo false ∷ entry false (p_of x0) Parametric SplitLeft ∷ []
  pub right : right_of (start Negative) open_literal Parametric ≡ pseudo false ∷ entry true (p_of x0) Parametric SplitRight ∷ []
  pub right_ground : right_of (start Negative) ground_literal Universal ≡ pseudo false ∷ entry true (p_of a) Universal SplitRight ∷ []
