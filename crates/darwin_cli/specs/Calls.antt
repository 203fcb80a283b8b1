-- What the program owes to the words of a call.
use Rattle.std.specs.Prelude.{◌≡◌, ◌≢◌, ◌⊎◌, ◌+◌, ◌<◌, ◌≤◌, ℕ, List, codes, Option, Some, None, IsSome}
use Rattle.std.specs.Global.{Global}
use Rattle.std.specs.Io.KnownBytes.{Appends}
use Rattle.std.specs.declared.string.String.{String}
use Rattle.me_io.specs.Source.{Rose}
use Rattle.me_io.specs.Sink.{AppendedFront}
use Rattle.me_io.specs.declared.source.TheConstants.{MAX_BYTES}
use Rattle.me_terms.specs.AnswerViews.{answer_value}
use Rattle.darwin_solve.specs.Evidence.{MeetsOnlyList}
use Rattle.text_laws.specs.AskedOptions.{AskAlike}
use Rattle.darwin_options.specs.Settings.{Depth, Weight, Literals, Setting, value_of}
use Rattle.darwin_options.specs.AcceptedWords.{AreAccepted, Sets, Asks}
use Rattle.darwin_options.specs.declared.options.Options.{Options}
use Rattle.darwin_options.specs.declared.error.WordsError.{WordsError}
use Rattle.darwin_options.specs.declared.error.WordsError.TheVariants as error
use Rattle.szs_print.specs.RefusalText.{refusal_text}
use Rattle.szs_print.specs.declared.refusal.Refusal.{Refusal}
use Rattle.szs_print.specs.declared.refusal.Refusal.TheVariants.{Usage, Syntax, Inappropriate, Limit, Length, Read, Memory}
use Rattle.darwin_cli.specs.Outcome.{status_of, IsAnswered, IsRefused, IsDue}
use Rattle.darwin_cli.specs.Statuses.{IsWrittenOut, TextStood}

-- The name in what is written of words that are refused.
abbrev pub default_name : List ℕ
default_name = codes "stdin"

-- The refusal by which an error of the words is told.
abbrev pub words_told_as : WordsError → Refusal
words_told_as error.Usage = Usage
words_told_as error.Memory = Memory

-- The words give no options: they are not accepted, or there is no memory to read them.
abbrev pub IsWordsCause : List (String Global) → Refusal → Type 0
IsWordsCause words Usage = ¬ AreAccepted words
IsWordsCause words (Syntax at) = ⊥
IsWordsCause words (Inappropriate what at) = ⊥
IsWordsCause words (Limit which at) = ⊥
IsWordsCause words Length = ⊥
IsWordsCause words Read = ⊥
IsWordsCause words Memory = Unit {0}

-- The words are accepted, and ask for the problem of a file.
pub record AskForFile (words : List (String Global)) : Type 0 where
  pub accepted : AreAccepted words
  pub unmade : (options : Options) → Asks words options → options.make ≡ None

-- The words are accepted, and ask for a problem that is made of a seed.
pub record AskForMade (words : List (String Global)) : Type 0 where
  pub accepted : AreAccepted words
  pub seeded : (options : Options) → Asks words options → IsSome options.make

-- The words set none of the bounds of depth, weight and literals.
abbrev pub SetNoBound : List (String Global) → Type 0
SetNoBound words =
    (settings : List Setting) → Sets words settings
    → (value_of Depth settings ≡ None) × (value_of Weight settings ≡ None) × (value_of Literals settings ≡ None)

-- Whatever options the words and these others ask for, they ask for the same answer: the number of workers and the share may differ.
abbrev pub AskForTheSame : (words others : List (String Global)) → Type 0
AskForTheSame words others = (options other : Options) → Asks words options → Asks others other → AskAlike options other

-- Two sources, which have these bytes left where they tell them, give the same problem: both tell the same bytes, or none is asked, since there is a seed.
abbrev pub GiveAlike : Option ℕ → (told told' : Option (List ℕ)) → Type 0
GiveAlike (Some seed) told told' = Unit {0}
GiveAlike None told told' = (bytes : List ℕ) × (told ≡ Some bytes) × (told' ≡ Some bytes)

-- The first four say what is known of a source. It was old before the call with these words, and new after it.
module _ {S : Type 0} (left : S → Option (List ℕ)) (given : S → ℕ) (ended : S → Type 0) (faults : S → ℕ) (words : List (String Global)) (old new : S) where
  -- The words ask for options under which the text is that of an answer.
  abbrev pub IsCallAnswered : List ℕ → Type 0
  IsCallAnswered text = (options : Options) × Asks words options × IsAnswered left given ended faults options old new text

  -- The words give no options, and the source is as it was.
  abbrev pub AreWordsRefused : Refusal → Type 0
  AreWordsRefused refusal = IsWordsCause words refusal × (new ≡ old)

  -- The words are refused with this status, under the default name; or they ask for options under which a refusal of this status has its cause. Its text was written to a sink, which held these bytes before and those after it.
  abbrev pub IsCallRefused : ℕ → (held held' : Option (List ℕ)) → Type 0
  IsCallRefused status held held' =
      ((refusal : Refusal) × (status ≡ status_of refusal) × AreWordsRefused refusal × Appends held held' (refusal_text default_name refusal))
      ⊎ ((options : Options) × Asks words options × IsRefused left given ended faults options old new status held held')

  -- The text is due: that of words that are refused, or that which is due under the options that they ask for.
  abbrev pub IsCallDue : List ℕ → Type 0
  IsCallDue text =
      ((refusal : Refusal) × AreWordsRefused refusal × (text ≡ refusal_text default_name refusal))
      ⊎ ((options : Options) × Asks words options × IsDue left given ended faults options old new text)

-- The same of a source, the words of a call, and the source before and after it.
module _ {S : Type 0} (left : S → Option (List ℕ)) (given : S → ℕ) (ended : S → Type 0) (faults : S → ℕ) (words : List (String Global)) (old new : S) where
  -- What was written with status 0, to a sink that held these bytes before and those after it: the text of the answer to the call. Whoever asks for the same answer, with whatever number of workers and share, of a source that gives the same, is answered with no other text. A made problem is decided, unless its list is too heavy, where the words set no bound.
  pub record WroteOneText (held held' : Option (List ℕ)) : Type 0 where
    pub text : List ℕ
    pub written : Appends held held' text
    pub answered : IsCallAnswered left given ended faults words old new text
    pub only : (others : List (String Global)) (old' new' : S) (same : List ℕ) → AskForTheSame words others
        → ((options : Options) → Asks words options → GiveAlike options.make (left old) (left old'))
        → IsCallAnswered left given ended faults others old' new' same → text ≡ same
    pub decided : SetNoBound words → IsSome answered.0.make → MeetsOnlyList (answer_value answered.2.answer)

-- Beside what is known of a source, the next two say what is known of a sink. Each was this before the call with these words and that after it.
module _ {S K : Type 0} (left : S → Option (List ℕ)) (given : S → ℕ) (ended : S → Type 0) (faults : S → ℕ) (written : K → Option (List ℕ)) (broken : K → ℕ) (words : List (String Global)) (old new : S) (sink sink' : K) where
  -- What was written: at status 0 the whole text of the answer to the call, and nothing else; at status 6 a front of the text that was due, since the sink failed; and at any other status the whole text of a refusal of this status, which has its cause.
  pub record CallWrote (status : ℕ) : Type 0 where
    pub range : status ≤ 7
    pub answered : status ≡ 0 → (text : List ℕ) × IsCallAnswered left given ended faults words old new text × Appends (written sink) (written sink') text
    pub refused : 0 < status → status ≢ 6 → IsCallRefused left given ended faults words old new status (written sink) (written sink')
    pub front : status ≡ 6 → (text : List ℕ) × (n : ℕ) × IsCallDue left given ended faults words old new text × AppendedFront (written sink) (written sink') n text
    pub sink_fault : status ≡ 6 → Rose (broken sink) (broken sink')
    pub usage : ¬ AreAccepted words → ((status ≡ 1) ⊎ (6 ≤ status)) × (new ≡ old)
    pub too_long : given old + MAX_BYTES < given new → (status ≡ 4) ⊎ (status ≡ 6)

  -- One text stood before its first byte was written, and nothing of another one was written: that of an answer, after which only the statuses 0 and 6 remain, or that of a refusal, which has its cause, after which only its own status and 6 remain. Words that are refused are told under the default name.
  abbrev pub CallStood : ℕ → Type 0
  CallStood status =
      ((refusal : Refusal) × AreWordsRefused left given ended faults words old new refusal
      × IsWrittenOut (written sink) (written sink') (broken sink) (broken sink') (status_of refusal) (refusal_text default_name refusal) status)
      ⊎ ((options : Options) × Asks words options × TextStood left given ended faults written broken options old new sink sink' status)
