-- Which bounds are lawful.
use Rattle.std.specs.Prelude.{ℕ}
use Rattle.me_terms.specs.Validity.{IsLawful}
use Rattle.me_terms.specs.declared.bounds.Bounds.{Bounds}
use Rattle.me_terms.specs.declared.bounds.Start.{Start}

abbrev pub bounds_of : ℕ → ℕ → ℕ → ℕ → Start → Bounds
bounds_of depth weight literals list begins = record { depth = depth; weight = weight; literals = literals; list = list; start = begins }

-- The least and the greatest bounds are lawful with either start, and no bound is that is one less than the least or one more than the greatest.
pub record LawfulBounds : Type 0 where
  pub least : (begins : Start) → IsLawful (bounds_of 1 1 1 1 begins)
  pub greatest : (begins : Start) → IsLawful (bounds_of 64 100000 65535 50000000 begins)
  pub no_depth : (begins : Start) → ¬ IsLawful (bounds_of 0 1 1 1 begins)
  pub no_weight : (begins : Start) → ¬ IsLawful (bounds_of 1 0 1 1 begins)
  pub no_literals : (begins : Start) → ¬ IsLawful (bounds_of 1 1 0 1 begins)
  pub no_list : (begins : Start) → ¬ IsLawful (bounds_of 1 1 1 0 begins)
  pub too_deep : (begins : Start) → ¬ IsLawful (bounds_of 65 1 1 1 begins)
  pub too_heavy : (begins : Start) → ¬ IsLawful (bounds_of 1 100001 1 1 begins)
  pub too_many_literals : (begins : Start) → ¬ IsLawful (bounds_of 1 1 65536 1 begins)
  pub too_long_list : (begins : Start) → ¬ IsLawful (bounds_of 1 1 1 50000001 begins)
