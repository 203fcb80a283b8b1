-- Which bytes are a printed answer, and what it claims.
use Rattle.std.specs.Prelude.{◌≡◌, ◌⊎◌, ℕ, suc, ◌<◌, List, [], ◌∷◌, length, take, ⊤}
use Rattle.me_terms.specs.Terms.{AtomValue}
use Rattle.me_terms.specs.Values.{SignatureValue}
use Rattle.cnf_text.specs.ClauseText.{atom_text}
use Rattle.szs_print.specs.Printable.{IsName}
use Rattle.szs_read.specs.Claims.{IsLiteralOver, IsClaim, claim_literals, IsGrownBy, literal_of}
use Rattle.szs_read.specs.ClaimText.{claim_text}
use Rattle.szs_read.specs.Lines.{lines}
use Rattle.szs_read.specs.declared.claim.TheConstants.{MAX_OPEN}
use Rattle.szs_read.specs.declared.claim.Claim.{Claim}
use Rattle.szs_read.specs.declared.error.AnswerError.{AnswerError}
use Rattle.szs_read.specs.declared.error.AnswerError.TheVariants.{Line, Memory}

-- The bytes are the text of the claim, under some name, over the new signature. That is the old one, made longer by the symbols that are new in the text.
pub record IsAnswer (old : SignatureValue) (bytes : List ℕ) (new : SignatureValue) (claim : Claim) : Type 0 where
  pub name : List ℕ
  pub named : IsName name
  pub text : bytes ≡ claim_text new name claim
  pub lawful : IsClaim new claim
  pub grown : IsGrownBy old (claim_literals claim) new

-- Some answer has these as its first lines.
pub record BeginsAnswer (old : SignatureValue) (first : List (List ℕ)) : Type 0 where
  pub bytes : List ℕ
  pub new : SignatureValue
  pub claim : Claim
  pub answer : IsAnswer old bytes new claim
  pub begins : take (length first) (lines bytes) ≡ first

-- The bytes are no answer, and this is the least number of a line, from 1, such that no answer begins with the lines up to it. Where they end too early, it is one more than the number of their lines.
pub record IsRefusedAt (old : SignatureValue) (bytes : List ℕ) (line : ℕ) : Type 0 where
  pub before : ℕ
  pub place : line ≡ suc before
  pub begins : BeginsAnswer old (take before (lines bytes))
  pub ends : ((before < length (lines bytes)) × (BeginsAnswer old (take line (lines bytes)) → ⊥)) ⊎ ((before ≡ length (lines bytes)) × ((new : SignatureValue) (claim : Claim) → IsAnswer old bytes new claim → ⊥))

-- Want of memory needs no cause.
abbrev pub IsErrorCause : SignatureValue → List ℕ → AnswerError → Type 0
IsErrorCause old bytes (Line line) = IsRefusedAt old bytes line
IsErrorCause old bytes Memory = ⊤

-- The bytes are the text of the atom over the new signature, which is the old one with the symbols that are new in the text.
pub record IsAtomOf (old : SignatureValue) (bytes : List ℕ) (new : SignatureValue) (a : AtomValue) : Type 0 where
  pub text : bytes ≡ atom_text new a
  pub over : IsLiteralOver new MAX_OPEN (literal_of a)
  pub grown : IsGrownBy old (literal_of a ∷ []) new
