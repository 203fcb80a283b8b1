-- What the exit status of a call says, where its options are known.
use Rattle.std.specs.Prelude.{◌≡◌, ◌≢◌, ◌⊎◌, ◌+◌, ◌<◌, ◌≤◌, ℕ, List, length, Option, Some}
use Rattle.std.specs.Io.KnownBytes.{Appends}
use Rattle.me_io.specs.Source.{Rose}
use Rattle.me_io.specs.Sink.{AppendedFront}
use Rattle.me_io.specs.declared.source.TheConstants.{MAX_BYTES}
use Rattle.me_terms.specs.Values.{ProblemValue}
use Rattle.szs_print.specs.RefusalText.{refusal_text}
use Rattle.szs_print.specs.declared.refusal.Refusal.{Refusal}
use Rattle.tptp_cnf.specs.Files.{IsFile}
use Rattle.darwin_options.specs.declared.options.Options.{Options}
use Rattle.darwin_cli.specs.Outcome.{IsFileCause, IsAnswered, IsRefused, IsCause, IsDue, status_of}

-- A text was written out: whole, and nothing else, with the status that is due; or only a front of it, with status 6, since the sink failed. The sink held these bytes before and those after it, and its count of faults was this and then that.
pub record IsWrittenOut (held held' : Option (List ℕ)) (faults faults' due : ℕ) (text : List ℕ) (status : ℕ) : Type 0 where
  pub status_is : (status ≡ 6) ⊎ (status ≡ due)
  pub whole : status ≢ 6 → Appends held held' text
  pub front : status ≡ 6 → (written : ℕ) × AppendedFront held held' written text
  pub fault : status ≡ 6 → Rose faults faults'

-- The first four say what is known of a source, and the next two what is known of a sink. Each was this before the call and that after it.
module _ {S K : Type 0} (left : S → Option (List ℕ)) (given : S → ℕ) (ended : S → Type 0) (faults : S → ℕ) (written : K → Option (List ℕ)) (broken : K → ℕ) (options : Options) (old new : S) (sink sink' : K) where
  -- What was written under these options: at status 0 the whole text of an answer, and nothing else; at status 6 a front of the text that was due, since the sink failed; and at any other status the whole text of a refusal of this status, which has its cause.
  pub record OptionsWrote (status : ℕ) : Type 0 where
    pub range : status ≤ 7
    pub no_usage : status ≢ 1
    pub answered : status ≡ 0 → (text : List ℕ) × IsAnswered left given ended faults options old new text × Appends (written sink) (written sink') text
    pub refused : 0 < status → status ≢ 6 → IsRefused left given ended faults options old new status (written sink) (written sink')
    pub front : status ≡ 6 → (text : List ℕ) × (n : ℕ) × IsDue left given ended faults options old new text × AppendedFront (written sink) (written sink') n text
    pub sink_fault : status ≡ 6 → Rose (broken sink) (broken sink')
    pub too_long : given old + MAX_BYTES < given new → (status ≡ 4) ⊎ (status ≡ 6)

  -- The text of an answer stood before its first byte was written. Writing it takes no memory, so only the statuses 0 and 6 remain.
  abbrev pub AnswerStood : ℕ → Type 0
  AnswerStood status =
      (text : List ℕ) × IsAnswered left given ended faults options old new text
      × IsWrittenOut (written sink) (written sink') (broken sink) (broken sink') 0 text status

  -- The text of a refusal, which has its cause, stood before its first byte was written. Only its own status and 6 remain.
  abbrev pub RefusalStood : ℕ → Type 0
  RefusalStood status =
      (refusal : Refusal) × IsCause left given ended faults options old new refusal
      × IsWrittenOut (written sink) (written sink') (broken sink) (broken sink') (status_of refusal) (refusal_text options.name.items refusal) status

  -- One text stood, and nothing of another one was written.
  abbrev pub TextStood : ℕ → Type 0
  TextStood status = AnswerStood status ⊎ RefusalStood status

-- What is known of a source and a sink, and what each was before and after a call.
module _ {S K : Type 0} (left : S → Option (List ℕ)) (faults : S → ℕ) (broken : K → ℕ) (old new : S) (sink sink' : K) where
  -- The status for a file whose bytes the source tells, and which are not too many: that of the refusal that is due, or 0 where they mean a problem, but for a fault (5 and 6) and for want of memory (7). Where neither the source nor the sink had a fault, a file gets its answer, or 7.
  pub record IsFileStatus (status : ℕ) : Type 0 where
    pub refused : (bytes : List ℕ) (refusal : Refusal) → left old ≡ Some bytes → length bytes ≤ MAX_BYTES → IsFileCause bytes refusal → (status ≡ status_of refusal) ⊎ (5 ≤ status)
    pub file : (bytes : List ℕ) (problem : ProblemValue) → left old ≡ Some bytes → length bytes ≤ MAX_BYTES → IsFile bytes problem → (status ≡ 0) ⊎ (5 ≤ status)
    pub complete : (bytes : List ℕ) (problem : ProblemValue) → left old ≡ Some bytes → length bytes ≤ MAX_BYTES → IsFile bytes problem → ¬ Rose (faults old) (faults new) → ¬ Rose (broken sink) (broken sink') → (status ≡ 0) ⊎ (status ≡ 7)

  -- The status for a made problem: 0, 6 or 7, and not 6 where the sink had no fault. The source is left alone.
  pub record IsMadeStatus (status : ℕ) : Type 0 where
    pub range : (status ≡ 0) ⊎ (6 ≤ status)
    pub unread : new ≡ old
    pub complete : ¬ Rose (broken sink) (broken sink') → (status ≡ 0) ⊎ (status ≡ 7)
