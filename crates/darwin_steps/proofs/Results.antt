-- What follows from the fact that comes with a result.
use Rattle.std.proofs.Common.{Bool, Result, Ok, Err}
use Rattle.std.specs.Prelude.{OnOk, IfOk}

pub told : {E : Type 0} (r : Result (Unit {0}) E) (P Q : Type 0) → (P → Q) → OnOk r P → OnOk r Q
told (Ok u) P Q f h = f h
told (Err e) P Q f h = h

pub told_of : {E : Type 0} (r : Result Bool E) (P Q : Bool → Type 0) → ((b : Bool) → P b → Q b) → IfOk r P → IfOk r Q
told_of (Ok b) P Q f h = f b h
told_of (Err e) P Q f h = h
