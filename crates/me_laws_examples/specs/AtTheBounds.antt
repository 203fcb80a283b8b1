-- A literal and a context at the bounds and beyond them.
use Rattle.std.specs.Prelude.{true, false, [], ◌∷◌}
use Rattle.me_terms.specs.Values.{SplitLeft}
use Rattle.me_terms.specs.Context.{pseudo}
use Rattle.me_terms.specs.Fits.{Fits}
use Rattle.me_terms.specs.Next.{HasRoom, IsBeyond}
use Rattle.me_terms.specs.declared.bounds.Bound.TheVariants as bound
use Rattle.me_terms.specs.declared.bounds.Start.TheVariants.{Negative}
use Rattle.me_terms.specs.declared.entry.Kind.TheVariants.{Universal}
use Rattle.me_terms.specs.declared.atom.Literal.{Literal}
use Rattle.me_laws_examples.specs.Letters.{a, p_of, literal, entry}
use Rattle.me_laws_examples.specs.MeasuredTerms.{f}
use Rattle.me_laws_examples.specs.LawfulBounds.{bounds_of}

-- p(f(a,a)), of depth 2 and weight 4
abbrev pub deep : Literal
deep = literal true (p_of (f a a))

-- What is at a bound is within it. Too deep counts before too heavy, and no literal alone is beyond the other bounds.
pub record AtTheBounds : Type 0 where
  pub fits : Fits (bounds_of 2 4 1 1 Negative) deep
  pub too_deep : ¬ Fits (bounds_of 1 4 9 9 Negative) deep
  pub too_heavy : ¬ Fits (bounds_of 2 3 9 9 Negative) deep
  pub at_depth : ¬ IsBeyond bound.Depth (bounds_of 2 3 1 1 Negative) deep
  pub at_weight : ¬ IsBeyond bound.Weight (bounds_of 2 4 1 1 Negative) deep
  pub beyond_both : IsBeyond bound.Depth (bounds_of 1 3 1 1 Negative) deep
  pub depth_first : ¬ IsBeyond bound.Weight (bounds_of 1 3 1 1 Negative) deep
  pub beyond_weight : IsBeyond bound.Weight (bounds_of 2 3 1 1 Negative) deep
  pub not_beyond_literals : ¬ IsBeyond bound.Literals (bounds_of 1 1 1 1 Negative) deep
  pub not_beyond_list : ¬ IsBeyond bound.List (bounds_of 1 1 1 1 Negative) deep
  pub room : HasRoom (bounds_of 1 1 3 1 Negative) (pseudo false ∷ entry true (p_of a) Universal SplitLeft ∷ [])
  pub no_room : ¬ HasRoom (bounds_of 9 9 2 9 Negative) (pseudo false ∷ entry true (p_of a) Universal SplitLeft ∷ [])
