-- Sizes of remainders, and bounds on them.
use Rattle.std.proofs.Common.{◌≡◌, ℕ, ◌≤◌, inl, inr, List, [], ◌∷◌, length, Option, Some, None, ap, arith}
use Rattle.std.proofs.lemmas.List.{nil_from_length}
use Rattle.me_terms.specs.Order.{Precedes}
use Rattle.tuple_search.specs.Enumeration.{IsAtMost}
use Rattle.next_rule.specs.Best.{Improves}
use Rattle.next_rule.specs.SplitSearches.{split_rank, size_limit}
use Rattle.next_rule.specs.declared.split_state.SplitCandidate.{SplitCandidate}

-- ---- no remainder
pub none_within : {xs : List ℕ} → xs ≡ [] → IsAtMost (Some 0) (length xs)
none_within {xs} e = let same : length xs ≡ 0 = ap length e in omega (arith, same)

pub within_none : {xs : List ℕ} → IsAtMost (Some 0) (length xs) → xs ≡ []
within_none {xs} h = nil_from_length xs (omega (arith, h))

-- ---- what improves on the best candidate so far has no larger remainder
size_before : (a b x y : ℕ) → Precedes (a ∷ b ∷ []) (x ∷ y ∷ []) → a ≤ x
size_before a b x y (inl h) = omega arith
size_before a b x y (inr h) = let e = h.0 in omega (arith, e)

pub improves_within : (best : Option SplitCandidate) (e : SplitCandidate) → Improves split_rank best e → IsAtMost (size_limit best) e.size
improves_within None e h = tt
improves_within (Some b) e h = size_before e.size e.weight b.size b.weight h.0
