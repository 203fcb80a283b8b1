-- What holds of an option whatever it is.
use Rattle.std.proofs.Common.{◌≡◌, ◌<◌, ◌≤◌, ℕ, Option, Some, None, subst, arith}
use Rattle.std.specs.Prelude.{IfNone, IfSome}

pub if_none : {X : Type 0} (o : Option X) (P : Type 0) → P → IfNone o P
if_none None P p = p
if_none (Some x) P p = tt

pub none_so : {X : Type 0} (P Q : Type 0) (o : Option X) → (P → Q) → IfNone o P → IfNone o Q
none_so P Q None f h = f h
none_so P Q (Some x) f h = tt

pub no_longer : {X : Type 0} (o : Option X) (m n : ℕ) → IfSome o (λ _. m < n) → IfNone o (m ≤ n) → m ≤ n
no_longer None m n h k = k
no_longer (Some x) m n h k = omega (arith, h)

pub none_is : {X : Type 0} (P : Type 0) (o : Option X) → o ≡ None → IfNone o P → P
none_is {X} P o e h = subst (λ (v : Option X). IfNone v P) e h
