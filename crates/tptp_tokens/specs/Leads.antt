-- The tokens by their first byte.
use Rattle.std.specs.Prelude.{ℕ, ◌||◌, ◌==◌, if◌then◌else◌}
use Rattle.me_terms.specs.Labels.{is_digit}
use Rattle.tptp_tokens.specs.Bytes.{is_lower_letter, is_upper_letter, is_other_sign}
use Rattle.tptp_tokens.specs.declared.token.TokenKind.{TokenKind}
use Rattle.tptp_tokens.specs.declared.token.TokenKind.TheVariants.{OpenRound, CloseRound, OpenSquare, CloseSquare, Comma, Dot, Bar, Tilde, Equal, OtherSign, Bad}
use Rattle.tptp_tokens.specs.declared.lead.Lead.{Lead}
use Rattle.tptp_tokens.specs.declared.lead.Lead.TheVariants.{LowerLetter, UpperLetter, Dollar, SingleQuote, DoubleQuote, Numeric, Exclamation, Other}

-- which tokens a byte may begin
abbrev pub lead_of : ℕ → Lead
lead_of byte =
    if is_lower_letter byte then LowerLetter
    else if is_upper_letter byte then UpperLetter
    else if byte == 36 then Dollar
    else if byte == 39 then SingleQuote
    else if byte == 34 then DoubleQuote
    else if is_digit byte || byte == 43 || byte == 45 then Numeric
    else if byte == 33 then Exclamation
    else Other

-- the kind of a sign of one byte, and that of a bad token for any other byte
abbrev pub sign_kind : ℕ → TokenKind
sign_kind byte =
    if byte == 40 then OpenRound
    else if byte == 41 then CloseRound
    else if byte == 91 then OpenSquare
    else if byte == 93 then CloseSquare
    else if byte == 44 then Comma
    else if byte == 46 then Dot
    else if byte == 124 then Bar
    else if byte == 126 then Tilde
    else if byte == 61 then Equal
    else if is_other_sign byte then OtherSign
    else Bad
