-- What is read of an answer's lines. Only the private calls of the reader speak of it.
use Rattle.std.specs.Prelude.{◌≡◌, ◌<◌, ℕ, List, [], ◌∷◌, ◌++◌, codes}
use Rattle.std.specs.List.{AllByRecursion}
use Rattle.me_terms.specs.Values.{SignatureValue}
use Rattle.szs_print.specs.Printable.{IsName}
use Rattle.szs_read.specs.Answers.{IsAnswer}
use Rattle.szs_read.specs.Claims.{IsInstanceLine, IsEntryLine, Rises, IsClaim, instance_literals, entry_literals, claim_literals, IsGrownBy}
use Rattle.szs_read.specs.ClaimText.{instance_line, instance_lines, entry_line, entry_lines, claim_word, claim_body}
use Rattle.szs_read.specs.Values.{InstanceLineValue}
use Rattle.szs_read.specs.declared.claim.EntryLine.{EntryLine}
use Rattle.szs_read.specs.declared.claim.Claim.{Claim}

-- the line is the head and a name
pub record IsNamed (line head name : List ℕ) : Type 0 where
  pub named : IsName name
  pub text : line ≡ head ++ name ++ codes "\n"

-- the bytes are the k-th line of a refutation
pub record IsReadInstance (old new : SignatureValue) (k : ℕ) (bytes : List ℕ) (line : InstanceLineValue) : Type 0 where
  pub lawful : IsInstanceLine new line
  pub grown : IsGrownBy old line.literals new
  pub text : bytes ≡ instance_line new k line

-- the bytes are these lines of a refutation, from the first on
pub record AreInstances (old new : SignatureValue) (bytes : List ℕ) (lines : List InstanceLineValue) : Type 0 where
  pub lawful : AllByRecursion (IsInstanceLine new) lines
  pub grown : IsGrownBy old (instance_literals lines) new
  pub text : bytes ≡ instance_lines new 1 lines

-- a front of the bytes is these lines of a refutation, and rest comes after it
pub record BeginInstances (old new : SignatureValue) (bytes rest : List ℕ) (lines : List InstanceLineValue) : Type 0 where
  pub taken : List ℕ
  pub parts : bytes ≡ taken ++ rest
  pub read : AreInstances old new taken lines

-- the bytes are a line of a model, for a position behind the last one
pub record IsReadEntry (old new : SignatureValue) (last : ℕ) (bytes : List ℕ) (line : EntryLine) : Type 0 where
  pub lawful : IsEntryLine new line
  pub rises : last < line.at
  pub grown : IsGrownBy old (line.literal ∷ []) new
  pub text : bytes ≡ entry_line new line

-- the position of the last of the lines, or else this one
abbrev pub last_at : ℕ → List EntryLine → ℕ
last_at k [] = k
last_at k (line ∷ lines) = last_at line.at lines

-- the bytes are these lines of a model, from the first on
pub record AreEntries (old new : SignatureValue) (last : ℕ) (bytes : List ℕ) (lines : List EntryLine) : Type 0 where
  pub lawful : AllByRecursion (IsEntryLine new) lines
  pub rises : Rises 0 lines
  pub last_is : last_at 0 lines ≡ last
  pub grown : IsGrownBy old (entry_literals lines) new
  pub text : bytes ≡ entry_lines new lines

-- a front of the bytes is these lines of a model, and rest comes after it
pub record BeginEntries (old new : SignatureValue) (last : ℕ) (bytes rest : List ℕ) (lines : List EntryLine) : Type 0 where
  pub taken : List ℕ
  pub parts : bytes ≡ taken ++ rest
  pub read : AreEntries old new last taken lines

-- the bytes are what comes behind the status line of this word
pub record IsReadBody (old new : SignatureValue) (word name bytes : List ℕ) (claim : Claim) : Type 0 where
  pub status : claim_word claim ≡ word
  pub lawful : IsClaim new claim
  pub grown : IsGrownBy old (claim_literals claim) new
  pub text : bytes ≡ claim_body new name claim

-- a front of the bytes is what comes behind the status line of this word, and rest comes after it
pub record BeginsBody (old new : SignatureValue) (word name bytes rest : List ℕ) (claim : Claim) : Type 0 where
  pub taken : List ℕ
  pub parts : bytes ≡ taken ++ rest
  pub body : IsReadBody old new word name taken claim

-- a front of the bytes is an answer, and rest comes after it
pub record BeginsAnswer (old new : SignatureValue) (bytes rest : List ℕ) (claim : Claim) : Type 0 where
  pub taken : List ℕ
  pub parts : bytes ≡ taken ++ rest
  pub answer : IsAnswer old taken new claim
