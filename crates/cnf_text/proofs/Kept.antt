-- What stands in front of a text stays there while more is put at its end.
use Rattle.std.specs.Prelude.{◌≡◌, ℕ, List, ◌++◌, Result, Ok, Err, OnErr}
use Rattle.std.specs.Io.{StartsWith}
use Rattle.std.proofs.Transfers.{starts_with_of_append, starts_with_trans}

pub kept_behind : (first old new more : List ℕ) → StartsWith old first → new ≡ old ++ more → StartsWith new first
kept_behind first old new more h e = starts_with_trans new old first (starts_with_of_append new old more e) h

pub kept_beyond : (first old mid new more : List ℕ) → StartsWith old first → mid ≡ old ++ more → StartsWith new mid → StartsWith new first
kept_beyond first old mid new more h e k = starts_with_trans new mid first k (kept_behind first old mid more h e)

pub on_err : {T E P : Type 0} (r : Result T E) → P → OnErr r P
on_err (Ok x) p = tt
on_err (Err e) p = p
