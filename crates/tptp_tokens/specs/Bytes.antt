-- The kinds of bytes, and the words that are made of them.
use Rattle.std.specs.Prelude.{ℕ, Bool, false, nat_le, List, [], ◌∷◌, ◌&&◌, ◌||◌, ◌==◌}
use Rattle.std.specs.List.{list_all}
use Rattle.me_terms.specs.Labels.{is_digit}

-- bytes 9 to 13 and 32
abbrev pub is_blank : ℕ → Bool
is_blank byte = (nat_le 9 byte && nat_le byte 13) || byte == 32

-- a to z
abbrev pub is_lower_letter : ℕ → Bool
is_lower_letter byte = nat_le 97 byte && nat_le byte 122

-- A to Z
abbrev pub is_upper_letter : ℕ → Bool
is_upper_letter byte = nat_le 65 byte && nat_le byte 90

-- a letter, a digit or an underscore
abbrev pub is_word_byte : ℕ → Bool
is_word_byte byte = is_lower_letter byte || is_upper_letter byte || is_digit byte || byte == 95

-- the text begins with a byte that has p, and all its other bytes are word bytes
abbrev pub is_word : (ℕ → Bool) → List ℕ → Bool
is_word p [] = false
is_word p (byte ∷ text) = p byte && list_all is_word_byte text

-- a lower letter, and then any number of word bytes
abbrev pub is_lower_word : List ℕ → Bool
is_lower_word text = is_word is_lower_letter text

-- one of : ; ! ? & < > * + - / \ ^ @ { } #
abbrev pub is_other_sign : ℕ → Bool
is_other_sign byte = byte == 58 || byte == 59 || byte == 33 || byte == 63 || byte == 38 || byte == 60 || byte == 62 || byte == 42
    || byte == 43 || byte == 45 || byte == 47 || byte == 92 || byte == 94 || byte == 64 || byte == 123 || byte == 125 || byte == 35
