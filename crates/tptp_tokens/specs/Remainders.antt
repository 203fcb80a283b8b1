-- What a contract sees of a tokenizer.
use Rattle.std.specs.Prelude.{ℕ, List}

-- what is left to be cut into tokens: the bytes, and the place of the first of them
pub record Remainder : Type 0 where
  pub at : ℕ
  pub bytes : List ℕ
