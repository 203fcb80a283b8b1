-- What a contract sees of what is kept of hiding.
use Rattle.std.specs.Prelude.{ℕ, List, Option}

-- For each entry the position of the first later one that hides it, if one does, and for each the positions of those that it was the first to hide.
pub record HidingValue : Type 0 where
  pub hidden_by : List (Option ℕ)
  pub hides : List (List ℕ)
