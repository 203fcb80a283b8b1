-- How the lines of a text are passed, and where no answer goes on. Only the private calls of the reader speak of it.
use Rattle.std.specs.Prelude.{◌≡◌, ◌+◌, ℕ, List, [], ◌∷◌, ◌++◌, length}
use Rattle.std.specs.List.{AllByRecursion}
use Rattle.me_terms.specs.Values.{SignatureValue}
use Rattle.tptp_tokens.specs.Gaps.{IsOneLine}
use Rattle.szs_read.specs.Answers.{IsAnswer}
use Rattle.szs_read.specs.Reads.{IsReadBody}
use Rattle.szs_read.specs.declared.claim.Claim.{Claim}
use Rattle.szs_read.specs.declared.lines.Lines.{Lines}

-- a text without a line feed, and then one
abbrev pub IsLine : List ℕ → Type 0
IsLine line = (text : List ℕ) × (line ≡ text ++ 10 ∷ []) × IsOneLine text

abbrev pub joined : List (List ℕ) → List ℕ
joined [] = []
joined (line ∷ lines) = line ++ joined lines

-- just these lines were passed
pub record ArePassed (old new : Lines) (passed : List (List ℕ)) : Type 0 where
  pub each : AllByRecursion IsLine passed
  pub parts : old.rest.now ≡ joined passed ++ new.rest.now
  pub count : new.passed ≡ old.passed + length passed

-- Some bytes that have P begin with the passed lines, and none go on with the next line of what is left, or end where none is left.
pub record IsStuck (P : List ℕ → Type 0) (passed : List (List ℕ)) (left : List ℕ) : Type 0 where
  pub more : List ℕ
  pub begins : P (joined passed ++ more)
  pub ends : (line rest behind : List ℕ) → IsLine line → left ≡ line ++ rest → P (joined passed ++ (line ++ behind)) → ⊥
  pub short : left ≡ [] → P (joined passed) → ⊥

-- the lines up to the place at which nothing that has P goes on were passed
pub record AreStuck (P : List ℕ → Type 0) (old new : Lines) : Type 0 where
  pub passed : List (List ℕ)
  pub are : ArePassed old new passed
  pub stuck : IsStuck P passed new.rest.now

-- the lines of the only bytes with P that begin with them were passed
pub record AreWhole (P : List ℕ → Type 0) (old new : Lines) : Type 0 where
  pub passed : List (List ℕ)
  pub are : ArePassed old new passed
  pub only : (behind : List ℕ) → P (joined passed ++ behind) → behind ≡ []

-- what can come behind the status line of this word
abbrev pub IsBody : SignatureValue → List ℕ → List ℕ → List ℕ → Type 0
IsBody old word name bytes = (new : SignatureValue) × (claim : Claim) × IsReadBody old new word name bytes claim

abbrev pub IsSomeAnswer : SignatureValue → List ℕ → Type 0
IsSomeAnswer old bytes = (new : SignatureValue) × (claim : Claim) × IsAnswer old bytes new claim
