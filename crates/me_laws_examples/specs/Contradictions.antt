-- Which literals contradict a context that has one entry beside the pseudo-literal.
use Rattle.std.specs.Prelude.{true, false, [], ◌∷◌}
use Rattle.me_terms.specs.Terms.{AtomValue}
use Rattle.me_terms.specs.Values.{SplitLeft}
use Rattle.me_terms.specs.Context.{Context, pseudo}
use Rattle.me_terms.specs.Contradictory.{IsContradictory}
use Rattle.me_terms.specs.declared.entry.Kind.{Kind}
use Rattle.me_terms.specs.declared.entry.Kind.TheVariants.{Universal, Parametric}
use Rattle.me_laws_examples.specs.Letters.{a, b, x0, x1, p, literal, entry}

-- The positive entry of that atom and kind after the pseudo-literal.
abbrev pub having : AtomValue → Kind → Context
having atom kind = pseudo false ∷ entry true atom kind SplitLeft ∷ []

-- Two Universal ones contradict where they unify. A Parametric one contradicts a Universal one where that is at least as general, and another Parametric one where they are variants. What has the same sign never contradicts.
pub record Contradictions : Type 0 where
  pub unifiable : IsContradictory (having (p x0 b) Universal) (literal false (p a x0)) Universal
  pub not_unifiable : ¬ IsContradictory (having (p x0 b) Universal) (literal false (p x0 a)) Universal
  pub below_universal : IsContradictory (having (p x0 x1) Universal) (literal false (p x0 b)) Parametric
  pub beside_universal : ¬ IsContradictory (having (p x0 b) Universal) (literal false (p a x0)) Parametric
  pub above_parametric : IsContradictory (having (p a x0) Parametric) (literal false (p x0 x1)) Universal
  pub beside_parametric : ¬ IsContradictory (having (p a x0) Parametric) (literal false (p x0 b)) Universal
  pub variants : IsContradictory (having (p a x0) Parametric) (literal false (p a x1)) Parametric
  pub no_variants : ¬ IsContradictory (having (p a x0) Parametric) (literal false (p x0 x1)) Parametric
  pub same_sign : ¬ IsContradictory (having (p x0 b) Universal) (literal true (p a x0)) Universal
