-- What was written, and what its status says.
use Rattle.std.proofs.Common.{◌≡◌, ◌≢◌, ◌⊎◌, inl, inr, ℕ, ◌+◌, ◌<◌, ◌≤◌, List, length, Option, Some, None, Result, Ok, Err, refl, sym, subst, ap, ◌∙◌, arith}
use Rattle.std.specs.Prelude.{IfOk, IfErr, IsSome, IsErrOf}
use Rattle.std.specs.Io.KnownBytes.{Appends}
use Rattle.me_io.specs.Source.{Rose}
use Rattle.me_io.specs.declared.source.TheConstants.{MAX_BYTES}
use Rattle.szs_print.specs.RefusalText.{refusal_text}
use Rattle.szs_print.specs.declared.refusal.Refusal.{Refusal}
use Rattle.szs_print.specs.declared.refusal.Refusal.TheVariants.{Usage, Syntax, Inappropriate, Limit, Length, Read, Memory}
use Rattle.std.specs.Global.{Global}
use Rattle.std.specs.declared.string.String.{String}
use Rattle.darwin_options.specs.AcceptedWords.{AreAccepted}
use Rattle.darwin_options.specs.declared.options.Options.{Options}
use Rattle.darwin_cli.specs.Calls.{default_name, IsWordsCause, CallWrote, CallStood}
use Rattle.darwin_cli.specs.Outcome.{IsAnswered, IsCause, status_of}
use Rattle.darwin_cli.specs.Statuses.{IsWrittenOut, OptionsWrote, TextStood, IsFileStatus, IsMadeStatus}
use Rattle.darwin_cli.proofs.Causes.{refused_status, file_status, complete_status, answered_is_not_refused}
use Rattle.darwin_cli.proofs.Told.{told, own_status}

-- ---- the status of a refusal

status_range : (r : Refusal) → (1 ≤ status_of r) × (status_of r ≤ 7) × (status_of r ≢ 6)
status_range Usage = (omega arith, omega arith, λ e. absurd (omega (arith, e)))
status_range (Syntax at) = (omega arith, omega arith, λ e. absurd (omega (arith, e)))
status_range (Inappropriate what at) = (omega arith, omega arith, λ e. absurd (omega (arith, e)))
status_range (Limit which at) = (omega arith, omega arith, λ e. absurd (omega (arith, e)))
status_range Length = (omega arith, omega arith, λ e. absurd (omega (arith, e)))
status_range Read = (omega arith, omega arith, λ e. absurd (omega (arith, e)))
status_range Memory = (omega arith, omega arith, λ e. absurd (omega (arith, e)))

module _ {S : Type 0} (left : S → Option (List ℕ)) (given : S → ℕ) (ended : S → Type 0) (faults : S → ℕ) (options : Options) (old new : S) where
  -- options are no words
  not_usage : (r : Refusal) → IsCause left given ended faults options old new r → status_of r ≢ 1
  not_usage Usage cause = absurd cause
  not_usage (Syntax at) cause = λ e. absurd (omega (arith, e))
  not_usage (Inappropriate what at) cause = λ e. absurd (omega (arith, e))
  not_usage (Limit which at) cause = λ e. absurd (omega (arith, e))
  not_usage Length cause = λ e. absurd (omega (arith, e))
  not_usage Read cause = λ e. absurd (omega (arith, e))
  not_usage Memory cause = λ e. absurd (omega (arith, e))

  none_is_made : (make : Option ℕ) → IsSome make → make ≡ None → ⊥
  none_is_made None some e = cc some
  none_is_made (Some seed) some e = cc e

  -- a made problem is refused for want of memory alone
  made_cause : (r : Refusal) → IsSome options.make → IsCause left given ended faults options old new r → status_of r ≡ 7
  made_cause Usage some cause = absurd cause
  made_cause (Syntax at) some cause = absurd (none_is_made options.make some cause.0)
  made_cause (Inappropriate what at) some cause = absurd (none_is_made options.make some cause.0)
  made_cause (Limit which at) some cause = absurd (none_is_made options.make some cause.0)
  made_cause Length some cause = absurd (none_is_made options.make some cause.0)
  made_cause Read some cause = absurd (none_is_made options.make some cause.0)
  made_cause Memory some cause = refl

module _ {S K : Type 0} (left : S → Option (List ℕ)) (given : S → ℕ) (ended : S → Type 0) (faults : S → ℕ) (written : K → Option (List ℕ)) (broken : K → ℕ) (options : Options) (old new : S) (sink sink' : K) where
  abbrev Answered : List ℕ → Type 0
  Answered text = IsAnswered left given ended faults options old new text

  abbrev Cause : Refusal → Type 0
  Cause r = IsCause left given ended faults options old new r

  abbrev Out : ℕ → List ℕ → ℕ → Type 0
  Out due text status = IsWrittenOut (written sink) (written sink') (broken sink) (broken sink') due text status

  -- the status of a text of an answer
  either_0 : (text : List ℕ) (status : ℕ) (P : ℕ → Type 0) → Out 0 text status → (status ≡ 6 → P 6) → P 0 → P status
  either_0 text status P out six zero = elim out.status_is as (λ _. P status) [ inl e ↦ subst P (sym e) (six e) | inr e ↦ subst P (sym e) zero ]

  -- the status of a refusal's text
  either_own : (r : Refusal) (text : List ℕ) (status : ℕ) (P : ℕ → Type 0) → Out (status_of r) text status → (status ≡ 6 → P 6) → P (status_of r) → P status
  either_own r text status P out six own = told P r status out.status_is six own

  wrote_answer : (text : List ℕ) (status : ℕ) → Answered text → (given old + MAX_BYTES < given new → ⊥) → Out 0 text status → OptionsWrote left given ended faults written broken options old new sink sink' status
  wrote_answer text status is few out = record {
    range = either_0 text status (λ n. n ≤ 7) out (λ six. omega arith) (omega arith);
    no_usage = either_0 text status (λ n. n ≢ 1) out (λ six e. absurd (omega (arith, e))) (λ e. absurd (omega (arith, e)));
    answered = λ zero. (text, is, out.whole (λ six. absurd (omega (arith, zero, six))));
    refused = λ some other. absurd (either_0 text status (λ n. 0 < n → ⊥) out (λ six h. absurd (other six)) (λ h. absurd (omega (arith, h))) some);
    front = λ six. let f = out.front six in (text, f.0, inl is, f.1);
    sink_fault = out.fault;
    too_long = λ many. absurd (few many);
  }

  wrote_refusal : (r : Refusal) (status : ℕ) → Cause r → (given old + MAX_BYTES < given new → r ≡ Length) → Out (status_of r) (refusal_text options.name.items r) status → OptionsWrote left given ended faults written broken options old new sink sink' status
  wrote_refusal r status cause long out =
      let text = refusal_text options.name.items r in
      let own = status_range r in
      record {
        range = either_own r text status (λ n. n ≤ 7) out (λ six. omega arith) own.1;
        no_usage = either_own r text status (λ n. n ≢ 1) out (λ six e. absurd (omega (arith, e))) (not_usage left given ended faults options old new r cause);
        answered = λ zero. absurd (either_own r text status (λ n. n ≡ 0 → ⊥) out (λ six e. absurd (omega (arith, e))) (λ e. absurd (omega (arith, e, own.0))) zero);
        refused = λ some other. (r, own_status r status out.status_is other, cause, out.whole other);
        front = λ six. let f = out.front six in (text, f.0, inr (r, cause, refl), f.1);
        sink_fault = out.fault;
        too_long = λ many. either_own r text status (λ n. (n ≡ 4) ⊎ (n ≡ 6)) out (λ six. inr refl) (inl (ap status_of (long many)));
      }

  module _ {V : Type 0} (items : V → List ℕ) where
    -- what is found is written out
    abbrev FoundOut : Result V Refusal → ℕ → Type 0
    FoundOut found status = IfOk found (λ v. Out 0 (items v) status) × IfErr found (λ r. Out (status_of r) (refusal_text options.name.items r) status)

    -- what is found is an answer's text, or a refusal with its cause
    abbrev IsFound : Result V Refusal → Type 0
    IsFound found = IfOk found (λ v. Answered (items v)) × IfErr found Cause

    pub wrote : (found : Result V Refusal) (status : ℕ) → IsFound found → (given old + MAX_BYTES < given new → IsErrOf found Length) → FoundOut found status
        → OptionsWrote left given ended faults written broken options old new sink sink' status
    wrote (Ok v) status is long out = wrote_answer (items v) status is.0 (λ many. not_ok v (long many)) out.0
      where
        not_ok : (v : V) → IsErrOf {T = V} {E = Refusal} (Ok v) Length → ⊥
        not_ok v e = cc e
    wrote (Err r) status is long out = wrote_refusal r status is.1 (λ many. same_refusal (long many)) out.1
      where
        same_refusal : IsErrOf {T = V} {E = Refusal} (Err r) Length → r ≡ Length
        same_refusal e = cc e

    -- what was found stood before its first byte was written
    pub stood : (found : Result V Refusal) (status : ℕ) → IsFound found → FoundOut found status
        → TextStood left given ended faults written broken options old new sink sink' status
    stood (Ok v) status is out = inl (items v, is.0, out.0)
    stood (Err r) status is out = inr (r, is.1, out.1)

    pub file_status_is : (found : Result V Refusal) (status : ℕ) → options.make ≡ None → IsFound found → FoundOut found status
        → IsFileStatus left faults broken old new sink sink' status
    file_status_is (Ok v) status unmade is out =
        let text = items v in
        record {
          refused = λ bytes due told_bytes few cause. absurd (answered_is_not_refused left given ended faults options old new bytes text due unmade told_bytes is.0 cause);
          file = λ bytes problem told_bytes few means. either_0 text status (λ n. (n ≡ 0) ⊎ (5 ≤ n)) out.0 (λ six. inr (omega arith)) (inl refl);
          complete = λ bytes problem told_bytes few means quiet still. either_0 text status (λ n. (n ≡ 0) ⊎ (n ≡ 7)) out.0 (λ six. absurd (still (out.0.fault six))) (inl refl);
        }
    file_status_is (Err r) status unmade is out =
        let text = refusal_text options.name.items r in
        record {
          refused = λ bytes due told_bytes few cause. either_own r text status (λ n. (n ≡ status_of due) ⊎ (5 ≤ n)) out.1 (λ six. inr (omega arith)) (refused_status left given ended faults options old new bytes due r told_bytes few cause is.1);
          file = λ bytes problem told_bytes few means. either_own r text status (λ n. (n ≡ 0) ⊎ (5 ≤ n)) out.1 (λ six. inr (omega arith)) (file_status left given ended faults options old new bytes problem r told_bytes few means is.1);
          complete = λ bytes problem told_bytes few means quiet still. either_own r text status (λ n. (n ≡ 0) ⊎ (n ≡ 7)) out.1 (λ six. absurd (still (out.1.fault six))) (complete_status left given ended faults options old new bytes problem r told_bytes few means quiet is.1);
        }

    pub made_status_is : (found : Result V Refusal) (status : ℕ) → IsSome options.make → new ≡ old → IsFound found → FoundOut found status
        → IsMadeStatus left faults broken old new sink sink' status
    made_status_is (Ok v) status some unread is out =
        let text = items v in
        record {
          range = either_0 text status (λ n. (n ≡ 0) ⊎ (6 ≤ n)) out.0 (λ six. inr (omega arith)) (inl refl);
          unread = unread;
          complete = λ still. either_0 text status (λ n. (n ≡ 0) ⊎ (n ≡ 7)) out.0 (λ six. absurd (still (out.0.fault six))) (inl refl);
        }
    made_status_is (Err r) status some unread is out =
        let text = refusal_text options.name.items r in
        let seven = made_cause left given ended faults options old new r some is.1 in
        record {
          range = either_own r text status (λ n. (n ≡ 0) ⊎ (6 ≤ n)) out.1 (λ six. inr (omega arith)) (inr (omega (arith, seven)));
          unread = unread;
          complete = λ still. either_own r text status (λ n. (n ≡ 0) ⊎ (n ≡ 7)) out.1 (λ six. absurd (still (out.1.fault six))) (inr seven);
        }

-- ---- words that give no options

module _ (words : List (String Global)) where
  words_status : (r : Refusal) → IsWordsCause words r → (status_of r ≡ 1) ⊎ (6 ≤ status_of r)
  words_status Usage cause = inl refl
  words_status (Syntax at) cause = absurd cause
  words_status (Inappropriate what at) cause = absurd cause
  words_status (Limit which at) cause = absurd cause
  words_status Length cause = absurd cause
  words_status Read cause = absurd cause
  words_status Memory cause = inr (omega arith)

  -- words that are accepted are refused for want of memory alone
  accepted_status : (r : Refusal) → AreAccepted words → IsWordsCause words r → status_of r ≡ 7
  accepted_status Usage accepted cause = absurd (cause accepted)
  accepted_status (Syntax at) accepted cause = absurd cause
  accepted_status (Inappropriate what at) accepted cause = absurd cause
  accepted_status (Limit which at) accepted cause = absurd cause
  accepted_status Length accepted cause = absurd cause
  accepted_status Read accepted cause = absurd cause
  accepted_status Memory accepted cause = refl

  -- a refusal of words is not told with 0
  pub words_not_answered : (r : Refusal) (status : ℕ) → IsWordsCause words r → (status ≡ 6) ⊎ (status ≡ status_of r) → status ≡ 0 → ⊥
  words_not_answered r status cause is zero =
      let own = status_range r in
      told (λ n. n ≡ 0 → ⊥) r status is (λ six e. absurd (omega (arith, e))) (λ e. absurd (omega (arith, e, own.0))) zero

module _ {S K : Type 0} (left : S → Option (List ℕ)) (given : S → ℕ) (ended : S → Type 0) (faults : S → ℕ) (written : K → Option (List ℕ)) (broken : K → ℕ) (words : List (String Global)) (old : S) (sink sink' : K) where
  -- the text of a refusal of the words is written out
  abbrev WordsOut : Refusal → ℕ → Type 0
  WordsOut r status = IsWrittenOut (written sink) (written sink') (broken sink) (broken sink') (status_of r) (refusal_text default_name r) status

  pub words_wrote : (r : Refusal) (status : ℕ) → IsWordsCause words r → WordsOut r status → CallWrote left given ended faults written broken words old old sink sink' status
  words_wrote r status cause out =
      let own = status_range r in
      record {
        range = told (λ n. n ≤ 7) r status out.status_is (λ six. omega arith) own.1;
        answered = λ zero. absurd (words_not_answered words r status cause out.status_is zero);
        refused = λ some other. inl (r, own_status r status out.status_is other, (cause, refl), out.whole other);
        front = λ six. let f = out.front six in (refusal_text default_name r, f.0, inl (r, (cause, refl), refl), f.1);
        sink_fault = out.fault;
        usage = λ not. (told (λ n. (n ≡ 1) ⊎ (6 ≤ n)) r status out.status_is (λ six. inr (omega arith)) (words_status words r cause), refl);
        too_long = λ many. absurd (omega (arith, many));
      }

  pub words_stood : (r : Refusal) (status : ℕ) → IsWordsCause words r → WordsOut r status → CallStood left given ended faults written broken words old old sink sink' status
  words_stood r status cause out = inl (r, (cause, refl), out)

  pub words_file_status : (r : Refusal) (status : ℕ) → AreAccepted words → IsWordsCause words r → WordsOut r status → IsFileStatus left faults broken old old sink sink' status
  words_file_status r status accepted cause out =
      let seven = accepted_status words r accepted cause in
      record {
        refused = λ bytes due told_bytes few is. inr (told (λ n. 5 ≤ n) r status out.status_is (λ six. omega arith) (omega (arith, seven)));
        file = λ bytes problem told_bytes few means. inr (told (λ n. 5 ≤ n) r status out.status_is (λ six. omega arith) (omega (arith, seven)));
        complete = λ bytes problem told_bytes few means quiet still. told (λ n. (n ≡ 0) ⊎ (n ≡ 7)) r status out.status_is (λ six. absurd (still (out.fault six))) (inr seven);
      }

  pub words_made_status : (r : Refusal) (status : ℕ) → AreAccepted words → IsWordsCause words r → WordsOut r status → IsMadeStatus left faults broken old old sink sink' status
  words_made_status r status accepted cause out =
      let seven = accepted_status words r accepted cause in
      record {
        range = inr (told (λ n. 6 ≤ n) r status out.status_is (λ six. omega arith) (omega (arith, seven)));
        unread = refl;
        complete = λ still. told (λ n. (n ≡ 0) ⊎ (n ≡ 7)) r status out.status_is (λ six. absurd (still (out.fault six))) (inr seven);
      }
