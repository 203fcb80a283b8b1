-- Which claims a printed answer shows, and what is said of the others.
use Rattle.std.specs.Prelude.{◌≡◌, ℕ, ◌+◌, ◌-◌, ◌^◌, ◌<◌, List, [], ◌∷◌, ◌++◌, map, length, take, slice_get, Option, None, Some, IsTrue}
use Rattle.std.specs.List.{All}
use Rattle.me_terms.specs.Values.{SignatureValue, ClauseValue, ProblemValue, EntryValue, SplitLeft}
use Rattle.me_terms.specs.Variables.{are_ground, is_canonical}
use Rattle.me_terms.specs.Context.{Context}
use Rattle.me_terms.specs.Contradictory.{IsContradictory}
use Rattle.me_terms.specs.Grown as grown
use Rattle.me_terms.specs.Positions.{ClauseAt}
use Rattle.me_terms.specs.Productive.{IsProductiveUnifier, HasProductive}
use Rattle.me_terms.specs.Substitutions.{Family}
use Rattle.me_terms.specs.declared.atom.Literal.{Literal}
use Rattle.me_terms.specs.declared.atom.Pattern.TheVariants.{Of}
use Rattle.me_terms.specs.declared.bounds.Start.{Start}
use Rattle.me_terms.specs.declared.entry.Kind.TheVariants as kind
use Rattle.ground_solver.specs.Assignments.{IsUnsatisfiable, IsModel}
use Rattle.ground_solver.specs.Named.{literal_count}
use Rattle.szs_read.specs.Values.{InstanceLineValue}
use Rattle.szs_read.specs.Answers.{IsAnswer, IsRefusedAt}
use Rattle.szs_read.specs.declared.claim.EntryLine.{EntryLine}
use Rattle.szs_read.specs.declared.claim.Claim.{Claim}
use Rattle.szs_read.specs.declared.claim.Claim.TheVariants as claim
use Rattle.answer_check.specs.Instances.{IsOwnInstance, AreKnown}
use Rattle.answer_check.specs.declared.verdict.Verdict.{Verdict}
use Rattle.answer_check.specs.declared.verdict.Verdict.TheVariants.{Refutation, Model, WrongLine, Satisfied, Unifier, Unread, Open}

-- ---- refutations

-- The clauses that the lines are.
abbrev pub literals_of : List InstanceLineValue → List (List Literal)
literals_of lines = map (λ line. line.literals) lines

-- A claim has few enough literals to be decided, as each that was read has.
abbrev pub HasFewLiterals : Claim → Type 0
HasFewLiterals (claim.Refuted lines) = literal_count (literals_of lines.items) < 2 ^ 32 - 1
HasFewLiterals (claim.Model start lines) = Unit {0}
HasFewLiterals (claim.Open bound) = Unit {0}

abbrev pub AreKnownLines : SignatureValue → List InstanceLineValue → Type 0
AreKnownLines signature lines = All (λ line. AreKnown signature line.literals) lines

-- Each line is a ground instance of the clause that it names, and no choice of truth values makes all lines true.
pub record IsShownRefutation (problem : ProblemValue) (lines : List InstanceLineValue) : Type 0 where
  pub instances : All (IsOwnInstance problem) lines
  pub refuted : IsUnsatisfiable (literals_of lines)

-- The line of this number, from 1, is the first that is no ground instance of the clause that it names.
pub record IsWrongInstance (problem : ProblemValue) (lines : List InstanceLineValue) (number : ℕ) : Type 0 where
  pub before : ℕ
  pub line : InstanceLineValue
  pub number_is : number ≡ before + 1
  pub stands : slice_get lines before ≡ Some line
  pub right_before : All (IsOwnInstance problem) (take before lines)
  pub wrong : ¬ IsOwnInstance problem line

-- The number of the first wrong line; each line is right where there is none.
abbrev pub IsFirstWrong : ProblemValue → List InstanceLineValue → Option ℕ → Type 0
IsFirstWrong problem lines None = All (IsOwnInstance problem) lines
IsFirstWrong problem lines (Some number) = IsWrongInstance problem lines number

abbrev pub IsRefutationJudged : ProblemValue → List InstanceLineValue → Verdict → Type 0
IsRefutationJudged problem lines Refutation = IsShownRefutation problem lines
IsRefutationJudged problem lines (WrongLine number) = IsWrongInstance problem lines number
IsRefutationJudged problem lines (Satisfied trues) = All (IsOwnInstance problem) lines × IsModel (literals_of lines) trues.items
IsRefutationJudged problem lines Model = ⊥
IsRefutationJudged problem lines (Unifier number) = ⊥
IsRefutationJudged problem lines (Unread line) = ⊥
IsRefutationJudged problem lines Open = ⊥

-- ---- models

-- The entry that a line gives. Its reason is not told, and nothing here asks for it.
abbrev pub entry_of : EntryLine → EntryValue
entry_of line = record { positive = line.literal.positive; atom = Of line.literal.atom; kind = line.kind; reason = SplitLeft }

-- The start's pseudo-literal, and the entries of the lines.
abbrev pub context_of : Start → List EntryLine → Context
context_of start lines = grown.start start ++ map entry_of lines

-- The line is one that may stand behind this context.
pub record IsRightEntry (context : Context) (line : EntryLine) : Type 0 where
  pub canonical : IsTrue (is_canonical line.literal.atom)
  pub ground : IsTrue (are_ground line.literal.atom.args) → line.kind ≡ kind.Universal
  pub apart : ¬ IsContradictory context line.literal line.kind

-- Each line may stand behind those before it.
abbrev pub AreRightEntries : Start → List EntryLine → Type 0
AreRightEntries start lines =
    (k : ℕ) (line : EntryLine) → slice_get lines k ≡ Some line → IsRightEntry (context_of start (take k lines)) line

-- The lines are right, and no clause has a productive context unifier.
pub record IsShownModel (problem : ProblemValue) (start : Start) (lines : List EntryLine) : Type 0 where
  pub entries : AreRightEntries start lines
  pub none_productive : ¬ HasProductive problem (context_of start lines)

-- The first line that is not right stands at this position.
pub record IsWrongEntry (start : Start) (lines : List EntryLine) (at : ℕ) : Type 0 where
  pub before : ℕ
  pub line : EntryLine
  pub at_is : at ≡ line.at
  pub stands : slice_get lines before ≡ Some line
  pub right_before : AreRightEntries start (take before lines)
  pub wrong : ¬ IsRightEntry (context_of start (take before lines)) line

-- The clause at place c has a productive context unifier.
abbrev pub IsProductiveAt : ProblemValue → Context → ℕ → Type 0
IsProductiveAt problem context c =
    (tuple : List ℕ) × (clause : ClauseValue) × (family : Family) × IsProductiveUnifier problem context c tuple clause family

-- The first clause that has one is of this number.
pub record IsFirstProductive (problem : ProblemValue) (context : Context) (number : ℕ) : Type 0 where
  pub place : ℕ
  pub clause : ClauseValue
  pub clause_at : ClauseAt problem place clause
  pub number_is : number ≡ clause.number
  pub productive : IsProductiveAt problem context place
  pub first : (c : ℕ) → c < place → ¬ IsProductiveAt problem context c

abbrev pub IsModelJudged : ProblemValue → Start → List EntryLine → Verdict → Type 0
IsModelJudged problem start lines Model = IsShownModel problem start lines
IsModelJudged problem start lines (WrongLine number) = IsWrongEntry start lines number
IsModelJudged problem start lines (Unifier number) = AreRightEntries start lines × IsFirstProductive problem (context_of start lines) number
IsModelJudged problem start lines Refutation = ⊥
IsModelJudged problem start lines (Satisfied trues) = ⊥
IsModelJudged problem start lines (Unread line) = ⊥
IsModelJudged problem start lines Open = ⊥

-- ---- answers

-- The answer shows what it claims.
abbrev pub Shown : ProblemValue → Claim → Type 0
Shown problem (claim.Refuted lines) = IsShownRefutation problem lines.items
Shown problem (claim.Model start lines) = IsShownModel problem start lines.items
Shown problem (claim.Open bound) = ⊥

-- What is said of a claim that was read.
abbrev pub IsClaimJudged : ProblemValue → Claim → Verdict → Type 0
IsClaimJudged problem (claim.Refuted lines) verdict = IsRefutationJudged problem lines.items verdict
IsClaimJudged problem (claim.Model start lines) verdict = IsModelJudged problem start lines.items verdict
IsClaimJudged problem (claim.Open bound) verdict = verdict ≡ Open

-- The bytes are an answer to the problem, and this is said of it.
pub record IsReadAndJudged (problem : ProblemValue) (bytes : List ℕ) (signature : SignatureValue) (verdict : Verdict) : Type 0 where
  pub claim : Claim
  pub answer : IsAnswer problem.signature bytes signature claim
  pub judged : IsClaimJudged problem claim verdict

-- What is said of the bytes. The signature is the problem's own, with the symbols that are new in the answer.
abbrev pub IsJudged : ProblemValue → List ℕ → SignatureValue → Verdict → Type 0
IsJudged problem bytes signature (Unread line) = IsRefusedAt problem.signature bytes line
IsJudged problem bytes signature Refutation = IsReadAndJudged problem bytes signature Refutation
IsJudged problem bytes signature Model = IsReadAndJudged problem bytes signature Model
IsJudged problem bytes signature (WrongLine line) = IsReadAndJudged problem bytes signature (WrongLine line)
IsJudged problem bytes signature (Satisfied trues) = IsReadAndJudged problem bytes signature (Satisfied trues)
IsJudged problem bytes signature (Unifier number) = IsReadAndJudged problem bytes signature (Unifier number)
IsJudged problem bytes signature Open = IsReadAndJudged problem bytes signature Open
