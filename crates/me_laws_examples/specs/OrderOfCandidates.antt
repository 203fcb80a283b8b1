-- Which of two candidates comes before the other.
use Rattle.std.specs.Prelude.{ℕ, true, List, [], ◌∷◌}
use Rattle.me_terms.specs.Terms.{AtomValue}
use Rattle.me_terms.specs.Values.{EntryValue, SplitLeft}
use Rattle.me_terms.specs.Order.{Precedes, clause_key, assert_key, split_key}
use Rattle.me_terms.specs.declared.entry.Kind.TheVariants.{Universal, Parametric}
use Rattle.me_terms.specs.declared.atom.Literal.{Literal}
use Rattle.me_laws_examples.specs.Letters.{a, b, x0, p, p_of, literal, entry}

-- The first key comes before the second, and not the other way.
abbrev pub Before : List ℕ → List ℕ → Type 0
Before key other = Precedes key other × (¬ Precedes other key)

-- p(a,X0) weighs 3, and p(X0) and p(a) weigh 2.
abbrev pub universal : AtomValue → EntryValue
universal atom = entry true atom Universal SplitLeft

abbrev pub heavy : Literal
heavy = literal true (p a x0)

abbrev pub light : Literal
light = literal true (p_of x0)

-- Each line shows that what it names decides before all that stands below it.
pub record OrderOfCandidates : Type 0 where
  pub close_by_clause : Before (clause_key 0 (9 ∷ [])) (clause_key 1 (0 ∷ []))
  pub close_by_tuple : Before (clause_key 0 (0 ∷ 9 ∷ [])) (clause_key 0 (1 ∷ 0 ∷ []))
  pub assert_by_kind : Before (assert_key 9 9 (9 ∷ []) (universal (p a x0))) (assert_key 0 0 (0 ∷ []) (entry true (p_of x0) Parametric SplitLeft))
  pub assert_by_weight : Before (assert_key 9 9 (9 ∷ []) (universal (p_of a))) (assert_key 0 0 (0 ∷ []) (universal (p a x0)))
  pub assert_by_clause : Before (assert_key 0 9 (9 ∷ []) (universal (p_of a))) (assert_key 1 0 (0 ∷ []) (universal (p_of b)))
  pub assert_by_place : Before (assert_key 0 0 (9 ∷ []) (universal (p_of a))) (assert_key 0 1 (0 ∷ []) (universal (p_of b)))
  pub assert_by_tuple : Before (assert_key 0 0 (0 ∷ 9 ∷ []) (universal (p_of a))) (assert_key 0 0 (1 ∷ 0 ∷ []) (universal (p_of b)))
  pub split_by_size : Before (split_key 9 (9 ∷ []) 9 1 heavy) (split_key 0 (0 ∷ []) 0 2 light)
  pub split_by_weight : Before (split_key 9 (9 ∷ []) 9 1 light) (split_key 0 (0 ∷ []) 0 1 heavy)
  pub split_by_clause : Before (split_key 0 (9 ∷ []) 9 1 light) (split_key 1 (0 ∷ []) 0 1 light)
  pub split_by_tuple : Before (split_key 0 (0 ∷ []) 9 1 light) (split_key 0 (1 ∷ []) 0 1 light)
  pub split_by_place : Before (split_key 0 (0 ∷ []) 0 1 light) (split_key 0 (0 ∷ []) 1 1 light)
