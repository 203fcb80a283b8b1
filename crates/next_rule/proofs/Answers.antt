-- What the answer of a test says.
use Rattle.std.proofs.Common.{◌≡◌, Bool, true, false, IsTrue, ◌↔◌}

pub is_so : (b : Bool) (P : Type 0) → (IsTrue b ↔ P) → b ≡ true → P
is_so b P means is = means.0 is

pub not_so : (b : Bool) (P : Type 0) → (IsTrue b ↔ P) → b ≡ false → ¬ P
not_so b P means is h = let other = means.1 h in cc (other, is)
