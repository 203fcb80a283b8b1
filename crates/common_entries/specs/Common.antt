-- The first entries that two contexts have in common.
use Rattle.std.specs.Prelude.{◌≡◌, ◌<◌, ◌≤◌, ℕ, suc, length, take}
use Rattle.me_terms.specs.Context.{Context}

-- The contexts have so many first entries in common, and no more.
pub record AreCommon (count : ℕ) (one other : Context) : Type 0 where
  pub within : count ≤ length one
  pub within_other : count ≤ length other
  pub same : take count one ≡ take count other
  pub no_more : count < length one → count < length other → ¬ (take (suc count) one ≡ take (suc count) other)
