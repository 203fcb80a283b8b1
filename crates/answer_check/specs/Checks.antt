-- What the program owes to its words and its input, and what its exit status says.
use Rattle.std.specs.Prelude.{◌≡◌, ◌≢◌, ◌⊎◌, ◌+◌, ◌<◌, ◌≤◌, ℕ, List, codes, length, Option, Some, IfSome}
use Rattle.std.specs.Global.{Global}
use Rattle.std.specs.Io.KnownBytes.{Consumes, IsAtEnd, Appends}
use Rattle.std.specs.declared.string.String.{String}
use Rattle.me_io.specs.Source.{Rose}
use Rattle.me_io.specs.Sink.{AppendedFront}
use Rattle.me_io.specs.declared.source.TheConstants.{MAX_BYTES}
use Rattle.me_terms.specs.Values.{SignatureValue, ProblemValue}
use Rattle.szs_print.specs.RefusalText.{refusal_text}
use Rattle.szs_print.specs.declared.refusal.Refusal.{Refusal}
use Rattle.szs_print.specs.declared.refusal.Refusal.TheVariants.{Usage, Syntax, Inappropriate, Limit, Length, Read, Memory}
use Rattle.tptp_grammar.specs.declared.refusal.Refusal.TheVariants as file
use Rattle.tptp_cnf.specs.Files.{IsFile}
use Rattle.tptp_cnf.specs.Causes.{RefusedAt}
use Rattle.tptp_cnf.specs.declared.error.CnfError.{CnfError}
use Rattle.tptp_cnf.specs.declared.error.CnfError.TheVariants as error
use Rattle.answer_check.specs.Judgements.{IsJudged}
use Rattle.answer_check.specs.Marks.{problem_bytes, answer_bytes}
use Rattle.answer_check.specs.Verdicts.{status_of, verdict_text}
use Rattle.answer_check.specs.declared.verdict.Verdict.{Verdict}

-- The name in the text of a refusal.
abbrev pub check_name : List ℕ
check_name = codes "stdin"

-- The refusal by which an error of the reader of problems is told.
abbrev pub told_as : CnfError → Refusal
told_as (error.Syntax at) = Syntax at
told_as (error.Inappropriate what at) = Inappropriate what at
told_as (error.Limit which at) = Limit which at
told_as error.Memory = Memory

-- The exit status of a refusal.
abbrev pub refusal_status : Refusal → ℕ
refusal_status Usage = 1
refusal_status (Syntax at) = 2
refusal_status (Inappropriate what at) = 3
refusal_status (Limit which at) = 4
refusal_status Length = 4
refusal_status Read = 5
refusal_status Memory = 7

-- The problem of the input is refused for what stands in it.
abbrev pub IsInputCause : List ℕ → Refusal → Type 0
IsInputCause input Usage = ⊥
IsInputCause input (Syntax at) = RefusedAt file.Syntax at (problem_bytes input)
IsInputCause input (Inappropriate what at) = RefusedAt (file.Inappropriate what) at (problem_bytes input)
IsInputCause input (Limit which at) = RefusedAt (file.Limit which) at (problem_bytes input)
IsInputCause input Length = ⊥
IsInputCause input Read = ⊥
IsInputCause input Memory = ⊥

-- The status and the text are those of what is said of the answer to the problem.
pub record IsAnswerChecked (problem : ProblemValue) (answer : List ℕ) (status : ℕ) (text : List ℕ) : Type 0 where
  pub signature : SignatureValue
  pub verdict : Verdict
  pub judged : IsJudged problem answer signature verdict
  pub status_is : status ≡ status_of verdict
  pub text_is : text ≡ verdict_text signature verdict

-- They are those of what is said of the answer in the input, to the problem that stands before it.
pub record IsInputChecked (input : List ℕ) (status : ℕ) (text : List ℕ) : Type 0 where
  pub problem : ProblemValue
  pub means : IsFile (problem_bytes input) problem
  pub checked : IsAnswerChecked problem (answer_bytes input) status text

-- A text was written out: whole, and nothing else, with the status that is due; or only a front of it, with status 6, since the sink failed. The sink held these bytes before and those after it, and its count of faults was this and then that.
pub record IsWrittenOut (held held' : Option (List ℕ)) (faults faults' due : ℕ) (text : List ℕ) (status : ℕ) : Type 0 where
  pub status_is : (status ≡ 6) ⊎ (status ≡ due)
  pub whole : status ≢ 6 → Appends held held' text
  pub front : status ≡ 6 → (written : ℕ) × AppendedFront held held' written text
  pub fault : status ≡ 6 → Rose faults faults'

-- The first four say what is known of a source: the bytes left in it, how many it gave so far, that its end was reached, and its count of faults. The source was old before the call, and new after it.
module _ {S : Type 0} (left : S → Option (List ℕ)) (given : S → ℕ) (ended : S → Type 0) (old new : S) where
  -- The source gave up these bytes, which are not too many and all up to its end: where it tells its bytes, none is left.
  pub record GaveAll (bytes : List ℕ) : Type 0 where
    pub gone : Consumes (left old) (left new) bytes
    pub counted : given new ≡ given old + length bytes
    pub end : ended new
    pub none_left : IsAtEnd (left new)
    pub few : length bytes ≤ MAX_BYTES

  -- The status and the text are those of what is said of the bytes of the source.
  abbrev pub IsChecked : ℕ → List ℕ → Type 0
  IsChecked status text = (input : List ℕ) × GaveAll input × IsInputChecked input status text

module _ {S : Type 0} (left : S → Option (List ℕ)) (given : S → ℕ) (ended : S → Type 0) (faults : S → ℕ) (old new : S) where
  -- The source gave up a byte after the first MAX_BYTES, and where it tells its bytes, so many were left in it.
  pub record GaveTooMany : Type 0 where
    pub counted : given old + MAX_BYTES < given new
    pub told : IfSome (left old) (λ bytes. MAX_BYTES < length bytes)

  -- The bytes of the source were read to their end, and their problem is refused for what stands in it.
  abbrev pub IsInputRefused : Refusal → Type 0
  IsInputRefused refusal = (input : List ℕ) × GaveAll left given ended old new input × IsInputCause input refusal

  -- The refusal has its cause. It is not one of the words.
  abbrev pub IsCause : Refusal → Type 0
  IsCause Usage = ⊥
  IsCause (Syntax at) = IsInputRefused (Syntax at)
  IsCause (Inappropriate what at) = IsInputRefused (Inappropriate what at)
  IsCause (Limit which at) = IsInputRefused (Limit which at)
  IsCause Length = GaveTooMany
  IsCause Read = Rose (faults old) (faults new)
  IsCause Memory = Unit {0}

  -- The status and the text are those of a refusal that has its cause.
  abbrev pub IsRefused : ℕ → List ℕ → Type 0
  IsRefused status text =
      (refusal : Refusal) × IsCause refusal × (status ≡ refusal_status refusal) × (text ≡ refusal_text check_name refusal)

  -- What is due to these words: the refusal of words that are not the program's name alone, and the source is as it was; a refusal that has its cause; or what is said of the answer.
  pub data Due (words : List (String Global)) (status : ℕ) (text : List ℕ) : Type 0 where
    words_refused : length words ≢ 1 → new ≡ old → status ≡ 1 → text ≡ refusal_text check_name Usage → Due words status text
    refused : length words ≡ 1 → IsRefused status text → Due words status text
    checked : length words ≡ 1 → IsChecked left given ended old new status text → Due words status text

-- Beside what is known of a source, the next two say what is known of a sink. Each was this before the call with these words and that after it.
module _ {S K : Type 0} (left : S → Option (List ℕ)) (given : S → ℕ) (ended : S → Type 0) (faults : S → ℕ) (written : K → Option (List ℕ)) (broken : K → ℕ) (words : List (String Global)) (old new : S) (sink sink' : K) where
  -- What was written: the whole text that is due, and nothing else, with its status; or a front of it with status 6, since the sink failed.
  pub record CheckWrote (status : ℕ) : Type 0 where
    pub due_status : ℕ
    pub text : List ℕ
    pub due : Due left given ended faults old new words due_status text
    pub written_out : IsWrittenOut (written sink) (written sink') (broken sink) (broken sink') due_status text status
