-- How numbers are written.
use Rattle.std.specs.Prelude.{◌≡◌, ◌≢◌, ◌⊎◌, ℕ, List, [], ◌∷◌, ◌++◌, IsTrue}
use Rattle.std.specs.List.{list_all}
use Rattle.me_terms.specs.Labels.{is_digit}

-- one or more digits
abbrev pub IsDigits : List ℕ → Type 0
IsDigits text = (text ≢ []) × IsTrue (list_all is_digit text)

-- nothing, a plus or a minus
abbrev pub IsSign : List ℕ → Type 0
IsSign text = (text ≡ []) ⊎ (text ≡ 43 ∷ []) ⊎ (text ≡ 45 ∷ [])

-- this byte with digits behind it
abbrev pub IsDigitsBehind : ℕ → List ℕ → Type 0
IsDigitsBehind mark text = (digits : List ℕ) × (text ≡ mark ∷ digits) × IsDigits digits

-- nothing, or a full stop with digits behind it
abbrev pub IsFraction : List ℕ → Type 0
IsFraction text = (text ≡ []) ⊎ IsDigitsBehind 46 text

-- this byte, a sign and digits
abbrev pub IsPower : ℕ → List ℕ → Type 0
IsPower mark text = (sign digits : List ℕ) × (text ≡ mark ∷ (sign ++ digits)) × IsSign sign × IsDigits digits

-- nothing, or an e or E with a sign and digits behind it
abbrev pub IsExponent : List ℕ → Type 0
IsExponent text = (text ≡ []) ⊎ IsPower 101 text ⊎ IsPower 69 text

-- a slash with digits behind it, or a fraction with an exponent
abbrev pub IsTail : List ℕ → Type 0
IsTail text = IsDigitsBehind 47 text ⊎ ((fraction exponent : List ℕ) × (text ≡ fraction ++ exponent) × IsFraction fraction × IsExponent exponent)

-- a sign, digits and a tail
abbrev pub IsNumber : List ℕ → Type 0
IsNumber text = (sign digits tail : List ℕ) × (text ≡ sign ++ (digits ++ tail)) × IsSign sign × IsDigits digits × IsTail tail
