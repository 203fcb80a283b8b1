-- Why bytes are refused, and where.
use Rattle.std.specs.Prelude.{◌≡◌, ◌⊎◌, ℕ, List, [], ◌∷◌, length}
use Rattle.tptp_tokens.specs.Remainders.{Remainder}
use Rattle.tptp_tokens.specs.Tokens.{PlacedToken, IsNextToken, IsCut}
use Rattle.tptp_grammar.specs.Terminals.{terminal, terminals}
use Rattle.tptp_grammar.specs.Refusals.{IsRefusalOf, IsCutShort}
use Rattle.tptp_grammar.specs.declared.refusal.Refusal.{Refusal}
use Rattle.tptp_grammar.specs.declared.refusal.Refusal.TheVariants as refusal
use Rattle.tptp_cnf.specs.declared.error.CnfError.{CnfError}
use Rattle.tptp_cnf.specs.declared.error.CnfError.TheVariants as error

-- these tokens come first in what is left now, and then this is left
abbrev pub AreFirstTokens : List PlacedToken → Remainder → Remainder → Type 0
AreFirstTokens [] now left = now ≡ left
AreFirstTokens (token ∷ tokens) now left = (next : Remainder) × IsNextToken now token next × AreFirstTokens tokens next left

-- The token at this place, behind others with which the bytes begin, is the first refused one, and this is why.
pub record IsRefusedToken (why : Refusal) (at : ℕ) (bytes : List ℕ) : Type 0 where
  pub before : List PlacedToken
  pub token : PlacedToken
  pub left : Remainder
  pub rest : Remainder
  pub front : AreFirstTokens before (record { at = 0; bytes = bytes }) left
  pub next : IsNextToken left token rest
  pub refused : IsRefusalOf why (terminals before) (terminal token.token)
  pub place : at ≡ token.at

-- No token is refused, but the file ends too early, at its length.
pub record EndsEarly (at : ℕ) (bytes : List ℕ) : Type 0 where
  pub tokens : List PlacedToken
  pub cut : IsCut bytes tokens
  pub short : IsCutShort (terminals tokens)
  pub place : at ≡ length bytes

-- The bytes are refused at this place, and this is why.
abbrev pub RefusedAt : Refusal → ℕ → List ℕ → Type 0
RefusedAt refusal.Syntax at bytes = IsRefusedToken refusal.Syntax at bytes ⊎ EndsEarly at bytes
RefusedAt why at bytes = IsRefusedToken why at bytes

abbrev pub error_of : Refusal → ℕ → CnfError
error_of refusal.Syntax at = error.Syntax at
error_of (refusal.Inappropriate what) at = error.Inappropriate what at
error_of (refusal.Limit which) at = error.Limit which at

-- The error is the cause. Want of memory is free.
abbrev pub IsErrorCause : List ℕ → CnfError → Type 0
IsErrorCause bytes (error.Syntax at) = RefusedAt refusal.Syntax at bytes
IsErrorCause bytes (error.Inappropriate what at) = RefusedAt (refusal.Inappropriate what) at bytes
IsErrorCause bytes (error.Limit which at) = RefusedAt (refusal.Limit which) at bytes
IsErrorCause bytes error.Memory = Unit {0}
