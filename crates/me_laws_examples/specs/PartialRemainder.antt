-- The clause ~p(X)|q(X) beside the universal p(X0), with the pseudo-literal against q(X).
use Rattle.std.specs.Prelude.{ℕ, true, [], ◌∷◌}
use Rattle.me_terms.specs.Split.{IsSplit}
use Rattle.me_terms.specs.declared.atom.Literal.{Literal}
use Rattle.me_laws_examples.specs.Letters.{x0, q_of, literal}
use Rattle.me_laws_examples.specs.SmallAnswers.{usual}
use Rattle.me_laws_examples.specs.Sharpening.{beside, universal_p}
use Rattle.me_laws_examples.specs.ParametricAssert.{p_implies_q}

-- Only the place of the pseudo-literal is in the remainder, which has one place though the clause has two; so q(X0) alone is split on.
pub record PartialRemainder : Type 0 where
  pub splits_q : IsSplit p_implies_q usual (beside universal_p) 0 1 (1 ∷ 0 ∷ []) 1 (literal true (q_of x0))
  pub not_by_universal : (size : ℕ) (l : Literal) → ¬ IsSplit p_implies_q usual (beside universal_p) 0 0 (1 ∷ 0 ∷ []) size l
  pub not_of_two : (place : ℕ) (l : Literal) → ¬ IsSplit p_implies_q usual (beside universal_p) 0 place (1 ∷ 0 ∷ []) 2 l
