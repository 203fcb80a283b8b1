-- What the program owes to the options of a call and to what it is given: which refusals have their cause, and which answers are true of the problem.
use Rattle.std.specs.Prelude.{◌≡◌, ◌⊎◌, ◌+◌, ◌<◌, ◌≤◌, ℕ, List, length, Option, Some, None, IfSome, IsSome}
use Rattle.std.specs.Io.KnownBytes.{Consumes, IsAtEnd, Appends}
use Rattle.me_io.specs.Source.{Rose}
use Rattle.me_io.specs.declared.source.TheConstants.{MAX_BYTES}
use Rattle.me_terms.specs.Values.{ProblemValue}
use Rattle.me_terms.specs.Answer.{AnswerValue}
use Rattle.me_terms.specs.AnswerViews.{answer_value}
use Rattle.me_terms.specs.Deepening.{HasAnswerFrom}
use Rattle.me_terms.specs.declared.answer.Answer.{Answer}
use Rattle.me_terms.specs.declared.bounds.Bounds.{Bounds}
use Rattle.me_laws_counting.specs.FunctionFree.{IsFunctionFree, IsRoomy}
use Rattle.darwin_solve.specs.Evidence.{HasRefutation, HasModel, MeetsOnlyList}
use Rattle.tptp_grammar.specs.declared.refusal.Refusal.TheVariants as file
use Rattle.tptp_cnf.specs.Files.{IsFile}
use Rattle.tptp_cnf.specs.Causes.{RefusedAt}
use Rattle.tptp_cnf.specs.declared.error.CnfError.{CnfError}
use Rattle.tptp_cnf.specs.declared.error.CnfError.TheVariants as error
use Rattle.make_problem.specs.Made.{IsMade}
use Rattle.made_laws.specs.MadeProblems.{AreWide}
use Rattle.darwin_options.specs.declared.options.Options.{Options}
use Rattle.darwin_cli.specs.declared.answer.TheConstants.{MADE_PREDICATES, MADE_CLAUSES}
use Rattle.szs_print.specs.AnswerText.{IsAnswerText}
use Rattle.szs_print.specs.SummaryText.{IsSummary}
use Rattle.szs_print.specs.RefusalText.{refusal_text}
use Rattle.szs_print.specs.declared.refusal.Refusal.{Refusal}
use Rattle.szs_print.specs.declared.refusal.Refusal.TheVariants.{Usage, Syntax, Inappropriate, Limit, Length, Read, Memory}

-- The answer to the problem within these bounds, with deepening from a depth: that of the tree of the depth at which the search stops. Where the search gave up, the bound is one that this tree met. With the answer comes what makes it sure: a list of ground instances of the clauses that no choice of truth values makes true, or a context that makes every ground instance of every clause true; and where there are no functions with arguments and the bounds are wide, no bound but that of the list is met.
pub record IsSure (problem : ProblemValue) (bounds : Bounds) (from : ℕ) (reply : AnswerValue) : Type 0 where
  pub is_answer : HasAnswerFrom problem bounds from reply
  pub refuted : HasRefutation problem bounds reply
  pub model : HasModel problem reply
  pub function_free : IsFunctionFree problem → IsRoomy problem bounds → MeetsOnlyList reply

-- The bytes are refused for what stands in them.
abbrev pub IsFileCause : List ℕ → Refusal → Type 0
IsFileCause bytes Usage = ⊥
IsFileCause bytes (Syntax at) = RefusedAt file.Syntax at bytes
IsFileCause bytes (Inappropriate what at) = RefusedAt (file.Inappropriate what) at bytes
IsFileCause bytes (Limit which at) = RefusedAt (file.Limit which) at bytes
IsFileCause bytes Length = ⊥
IsFileCause bytes Read = ⊥
IsFileCause bytes Memory = ⊥

-- The refusal by which an error of the reader is told.
abbrev pub told_as : CnfError → Refusal
told_as (error.Syntax at) = Syntax at
told_as (error.Inappropriate what at) = Inappropriate what at
told_as (error.Limit which at) = Limit which at
told_as error.Memory = Memory

-- The exit status of a refusal.
abbrev pub status_of : Refusal → ℕ
status_of Usage = 1
status_of (Syntax at) = 2
status_of (Inappropriate what at) = 3
status_of (Limit which at) = 4
status_of Length = 4
status_of Read = 5
status_of Memory = 7

-- The text is that of the answer to a file's problem, and the summary of the answer to one that is made of a seed.
abbrev pub IsTextFor : Option ℕ → List ℕ → ProblemValue → Answer → List ℕ → Type 0
IsTextFor None name problem answer text = IsAnswerText name problem answer text
IsTextFor (Some seed) name problem answer text = IsSummary name problem answer text

-- The first four say what is known of a source: the bytes left in it, how many it gave so far, that its end was reached, and its count of faults. The source was old before the call with these options, and new after it.
module _ {S : Type 0} (left : S → Option (List ℕ)) (given : S → ℕ) (ended : S → Type 0) (faults : S → ℕ) (options : Options) (old new : S) where
  -- The source gave up these bytes, which are not too many and all up to its end: where it tells its bytes, none is left.
  pub record GaveAll (bytes : List ℕ) : Type 0 where
    pub gone : Consumes (left old) (left new) bytes
    pub counted : given new ≡ given old + length bytes
    pub end : ended new
    pub none_left : IsAtEnd (left new)
    pub few : length bytes ≤ MAX_BYTES

  -- The source gave up a byte after the first MAX_BYTES, and where it tells its bytes, so many were left in it.
  pub record GaveTooMany : Type 0 where
    pub counted : given old + MAX_BYTES < given new
    pub told : IfSome (left old) (λ bytes. MAX_BYTES < length bytes)

  -- The problem that is asked for: that which the bytes of the source mean, or where there is a seed that which is made of it, with so many predicates and clauses, and then the source is left alone.
  abbrev pub IsAskedFor : Option ℕ → ProblemValue → Type 0
  IsAskedFor None problem = (bytes : List ℕ) × GaveAll bytes × IsFile bytes problem
  IsAskedFor (Some seed) problem = (new ≡ old) × IsMade seed MADE_PREDICATES MADE_CLAUSES problem

  -- The bytes of the source were read to their end, and are refused for what stands in them.
  abbrev pub IsFileRefused : Refusal → Type 0
  IsFileRefused refusal = (options.make ≡ None) × ((bytes : List ℕ) × GaveAll bytes × IsFileCause bytes refusal)

  -- The refusal has its cause. Options are no words, so they are never refused.
  abbrev pub IsCause : Refusal → Type 0
  IsCause Usage = ⊥
  IsCause (Syntax at) = IsFileRefused (Syntax at)
  IsCause (Inappropriate what at) = IsFileRefused (Inappropriate what at)
  IsCause (Limit which at) = IsFileRefused (Limit which at)
  IsCause Length = (options.make ≡ None) × GaveTooMany
  IsCause Read = (options.make ≡ None) × Rose (faults old) (faults new)
  IsCause Memory = Unit {0}

  -- The text is that of an answer over the problem that is asked for, within the bounds of the options, from the depth that they begin with. The answer to a made problem within wide bounds gives up for the weight of the list alone.
  pub record IsAnswered (text : List ℕ) : Type 0 where
    pub problem : ProblemValue
    pub answer : Answer
    pub asked : IsAskedFor options.make problem
    pub sure : IsSure problem options.bounds options.from (answer_value answer)
    pub text_is : IsTextFor options.make options.name.items problem answer text
    pub decided : IsSome options.make → AreWide MADE_PREDICATES options.bounds → MeetsOnlyList (answer_value answer)

  -- A refusal of this status has its cause, and its text was written to a sink, which held these bytes before and those after it.
  abbrev pub IsRefused : ℕ → (held held' : Option (List ℕ)) → Type 0
  IsRefused status held held' =
      (refusal : Refusal) × (status ≡ status_of refusal) × IsCause refusal × Appends held held' (refusal_text options.name.items refusal)

  -- The text is due: that of an answer, or that of a refusal with its cause.
  abbrev pub IsDue : List ℕ → Type 0
  IsDue text = IsAnswered text ⊎ ((refusal : Refusal) × IsCause refusal × (text ≡ refusal_text options.name.items refusal))
