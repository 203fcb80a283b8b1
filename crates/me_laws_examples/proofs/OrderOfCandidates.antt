-- Which of two candidates comes before the other.
use Rattle.std.proofs.Common.{ℕ, ◌<◌, inl, inr, List, [], ◌∷◌, ◌++◌, refl, arith}
use Rattle.me_laws_examples.specs.OrderOfCandidates.{Before, OrderOfCandidates}

-- a lesser first number decides
lesser : (x y : ℕ) (key other : List ℕ) → x < y → Before (x ∷ key) (y ∷ other)
lesser x y key other lt = (inl lt, λ h. elim h as (λ _. ⊥) [ inl gt ↦ omega (arith, lt, gt) | inr same ↦ let e = same.0 in omega (arith, lt, e) ])

-- after equal numbers the rest decides
after : (equal key other : List ℕ) → Before key other → Before (equal ++ key) (equal ++ other)
after [] key other rest = rest
after (x ∷ equal) key other rest =
    let both = after equal key other rest in
    (inr (refl, both.0), λ h. elim h as (λ _. ⊥) [ inl lt ↦ omega (arith, lt) | inr same ↦ both.1 same.1 ])

pub order_of_candidates : OrderOfCandidates
order_of_candidates = record {
  close_by_clause = lesser 0 1 (9 ∷ []) (0 ∷ []) (omega arith);
  close_by_tuple = after (0 ∷ []) (0 ∷ 9 ∷ []) (1 ∷ 0 ∷ []) (lesser 0 1 (9 ∷ []) (0 ∷ []) (omega arith));
  assert_by_kind = lesser 0 1 (3 ∷ 9 ∷ 9 ∷ 9 ∷ []) (2 ∷ 0 ∷ 0 ∷ 0 ∷ []) (omega arith);
  assert_by_weight = after (0 ∷ []) (2 ∷ 9 ∷ 9 ∷ 9 ∷ []) (3 ∷ 0 ∷ 0 ∷ 0 ∷ []) (lesser 2 3 (9 ∷ 9 ∷ 9 ∷ []) (0 ∷ 0 ∷ 0 ∷ []) (omega arith));
  assert_by_clause = after (0 ∷ 2 ∷ []) (0 ∷ 9 ∷ 9 ∷ []) (1 ∷ 0 ∷ 0 ∷ []) (lesser 0 1 (9 ∷ 9 ∷ []) (0 ∷ 0 ∷ []) (omega arith));
  assert_by_place = after (0 ∷ 2 ∷ 0 ∷ []) (0 ∷ 9 ∷ []) (1 ∷ 0 ∷ []) (lesser 0 1 (9 ∷ []) (0 ∷ []) (omega arith));
  assert_by_tuple = after (0 ∷ 2 ∷ 0 ∷ 0 ∷ []) (0 ∷ 9 ∷ []) (1 ∷ 0 ∷ []) (lesser 0 1 (9 ∷ []) (0 ∷ []) (omega arith));
  split_by_size = lesser 1 2 (3 ∷ 9 ∷ 9 ∷ 9 ∷ []) (2 ∷ 0 ∷ 0 ∷ 0 ∷ []) (omega arith);
  split_by_weight = after (1 ∷ []) (2 ∷ 9 ∷ 9 ∷ 9 ∷ []) (3 ∷ 0 ∷ 0 ∷ 0 ∷ []) (lesser 2 3 (9 ∷ 9 ∷ 9 ∷ []) (0 ∷ 0 ∷ 0 ∷ []) (omega arith));
  split_by_clause = after (1 ∷ 2 ∷ []) (0 ∷ 9 ∷ 9 ∷ []) (1 ∷ 0 ∷ 0 ∷ []) (lesser 0 1 (9 ∷ 9 ∷ []) (0 ∷ 0 ∷ []) (omega arith));
  split_by_tuple = after (1 ∷ 2 ∷ 0 ∷ []) (0 ∷ 9 ∷ []) (1 ∷ 0 ∷ []) (lesser 0 1 (9 ∷ []) (0 ∷ []) (omega arith));
  split_by_place = after (1 ∷ 2 ∷ 0 ∷ 0 ∷ []) (0 ∷ []) (1 ∷ []) (lesser 0 1 [] [] (omega arith));
}
