-- What two calls, one after the other, gave up or appended.
use Rattle.std.proofs.Common.{◌≡◌, ℕ, ◌+◌, List, ◌++◌, length, take, drop, Option, subst, sym, arith, length-append}
use Rattle.std.proofs.Math.Seq.{take-add}
use Rattle.std.proofs.KnownBytes.{Consumes-trans, Appends-trans}
use Rattle.std.specs.Io.KnownBytes.{Appends, Consumes}
use Rattle.me_io.specs.Source.{GaveFront}

-- a front was given up, and then a front of the rest
pub gave_more : (a b c : Option (List ℕ)) (bs cs : List ℕ) (old mid new n : ℕ) → Consumes a b bs → Consumes b c cs
    → mid ≡ old + length bs → new ≡ mid + n → n ≡ length cs → GaveFront a c old new
gave_more a b c bs cs old mid new n p q e f h = record {
  front = bs ++ cs;
  gone = Consumes-trans a b c bs cs p q;
  counted = omega (arith, length-append bs cs, e, f, h);
}

-- a front was written, and then a front of the rest
pub appended_more : (a b c : Option (List ℕ)) (w n : ℕ) (bytes : List ℕ) → Appends a b (take w bytes) → Appends b c (take n (drop w bytes)) → Appends a c (take (w + n) bytes)
appended_more a b c w n bytes p q = subst (Appends a c) (sym (take-add w n bytes)) (Appends-trans a b c _ _ p q)
