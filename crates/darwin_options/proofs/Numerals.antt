-- Decimal digits are read as their number.
use Rattle.std.proofs.Common.{◌≡◌, ◌<◌, ◌≤◌, ◌^◌, ℕ, arith, List, length, Result, Ok}
use Rattle.std.specs.List.{All, slice_index_or}
use Rattle.std.specs.Int.{IsInRange}
use Rattle.std.specs.Str.Parse.{ParsesUnsigned, digits_value}
use Rattle.std.proofs.lemmas.Str.Parse.{IsNumeralModel, numerals_by_value, tells_by_index, parse_gives, digits_value_short}
use Rattle.darwin_options.specs.Settings.{decimal_value}

own : IsNumeralModel (λ (ds : List ℕ). (i : ℕ) → i < length ds → IsInRange 48 57 (slice_index_or ds i 0)) (digits_value 10)
own = numerals_by_value _ tells_by_index

pub number_read : {E : Type 0} (bytes : List ℕ) (r : Result ℕ E) → ParsesUnsigned 64 10 bytes r → 0 < length bytes → length bytes ≤ 18
    → All (λ byte. (48 ≤ byte) × (byte ≤ 57)) bytes → r ≡ Ok (decimal_value bytes)
number_read bytes r parsed some few digits =
    let inside : (i : ℕ) → i < length bytes → IsInRange 48 57 (slice_index_or bytes i 0) = λ i lt. digits i 0 lt in
    let short : digits_value 10 bytes < 10 ^ 18 = digits_value_short own bytes 18 inside few in
    parse_gives own 64 bytes r parsed inside some (omega (arith, short))
