-- How a signature grows while a text is read.
use Rattle.std.specs.Prelude.{◌≡◌, ◌≤◌, ℕ, ◌+◌, length, take}
use Rattle.me_terms.specs.Values.{SignatureValue}

-- The old symbols keep their numbers, and each new one takes one of the places that are left, of which there were so many before and are so many now.
pub record IsLonger (old new : SignatureValue) (before now : ℕ) : Type 0 where
  pub functions : take (length old.functions) new.functions ≡ old.functions
  pub predicates : take (length old.predicates) new.predicates ≡ old.predicates
  pub few : length new.functions + length new.predicates + now ≤ length old.functions + length old.predicates + before
