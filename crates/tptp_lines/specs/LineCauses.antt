-- Why the bytes of a file that may include files are refused, and where.
use Rattle.std.specs.Prelude.{◌≡◌, ◌⊎◌, ℕ, List, length}
use Rattle.tptp_tokens.specs.Remainders.{Remainder}
use Rattle.tptp_tokens.specs.Tokens.{PlacedToken, IsNextToken, IsCut}
use Rattle.tptp_grammar.specs.Terminals.{terminal, terminals}
use Rattle.tptp_grammar.specs.declared.refusal.Refusal.{Refusal}
use Rattle.tptp_grammar.specs.declared.refusal.Refusal.TheVariants as refusal
use Rattle.tptp_cnf.specs.Causes.{AreFirstTokens}
use Rattle.tptp_cnf.specs.declared.error.CnfError.{CnfError}
use Rattle.tptp_cnf.specs.declared.error.CnfError.TheVariants as error
use Rattle.tptp_lines.specs.LineRefusals.{IsRefusalInLines, AreCutShort}

-- The token at this place, behind others with which the bytes begin, is the first refused one, and this is why.
pub record IsRefusedToken (why : Refusal) (at : ℕ) (bytes : List ℕ) : Type 0 where
  pub before : List PlacedToken
  pub token : PlacedToken
  pub left : Remainder
  pub rest : Remainder
  pub front : AreFirstTokens before (record { at = 0; bytes = bytes }) left
  pub next : IsNextToken left token rest
  pub refused : IsRefusalInLines why (terminals before) (terminal token.token)
  pub place : at ≡ token.at

-- No token is refused, but the file ends too early, at its length.
pub record EndsEarly (at : ℕ) (bytes : List ℕ) : Type 0 where
  pub tokens : List PlacedToken
  pub cut : IsCut bytes tokens
  pub short : AreCutShort (terminals tokens)
  pub place : at ≡ length bytes

-- The bytes are refused at this place, and this is why.
abbrev pub LinesRefusedAt : Refusal → ℕ → List ℕ → Type 0
LinesRefusedAt refusal.Syntax at bytes = IsRefusedToken refusal.Syntax at bytes ⊎ EndsEarly at bytes
LinesRefusedAt why at bytes = IsRefusedToken why at bytes

-- The error is the cause. Want of memory is free.
abbrev pub IsLinesCause : List ℕ → CnfError → Type 0
IsLinesCause bytes (error.Syntax at) = LinesRefusedAt refusal.Syntax at bytes
IsLinesCause bytes (error.Inappropriate what at) = LinesRefusedAt (refusal.Inappropriate what) at bytes
IsLinesCause bytes (error.Limit which at) = LinesRefusedAt (refusal.Limit which) at bytes
IsLinesCause bytes error.Memory = Unit {0}
