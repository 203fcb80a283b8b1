-- What clauses of a call say of its result, turned into what the caller's say.
use Rattle.std.proofs.Common.{Result, Ok, Err, IfOk, IfErr, OnOk}

pub if_ok_map : {T E : Type 0} (r : Result T E) (P Q : T → Type 0) → ((a : T) → P a → Q a) → IfOk r P → IfOk r Q
if_ok_map (Ok a) P Q f h = f a h
if_ok_map (Err e) P Q f h = h

pub if_err_map : {T E : Type 0} (r : Result T E) (P Q : E → Type 0) → ((e : E) → P e → Q e) → IfErr r P → IfErr r Q
if_err_map (Ok a) P Q f h = h
if_err_map (Err e) P Q f h = f e h

pub if_err_both : {T E : Type 0} (r : Result T E) (P Q R : E → Type 0) → ((e : E) → P e → Q e → R e) → IfErr r P → IfErr r Q → IfErr r R
if_err_both (Ok a) P Q R f h k = h
if_err_both (Err e) P Q R f h k = f e h k

pub on_ok_map : {T E : Type 0} (r : Result T E) (P Q : Type 0) → (P → Q) → OnOk r P → OnOk r Q
on_ok_map (Ok a) P Q f h = f h
on_ok_map (Err e) P Q f h = h

pub on_ok_any : {T E : Type 0} (r : Result T E) (P : Type 0) → P → OnOk r P
on_ok_any (Ok a) P h = h
on_ok_any (Err e) P h = tt
