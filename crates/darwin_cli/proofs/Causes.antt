-- Which status comes with a cause.
use Rattle.std.proofs.Common.{◌≡◌, ◌⊎◌, inl, inr, ℕ, ◌+◌, ◌<◌, ◌≤◌, List, ◌++◌, length, Option, Some, None, Result, Ok, Err, refl, sym, subst, ap, ◌∙◌, arith}
use Rattle.std.proofs.lemmas.List.{append-nil}
use Rattle.std.proofs.lemmas.Option.{same_Some}
use Rattle.std.specs.Prelude.{IfOk, IfErr, IfSome, IsSome}
use Rattle.std.specs.Io.KnownBytes.{Consumes, IsAtEnd}
use Rattle.me_io.specs.Source.{Rose, GaveFront}
use Rattle.me_io.specs.declared.source.TheConstants.{MAX_BYTES}
use Rattle.me_terms.specs.Values.{ProblemValue}
use Rattle.me_terms.specs.Answer.{AnswerValue}
use Rattle.me_terms.specs.AnswerViews.{answer_value}
use Rattle.darwin_solve.specs.Evidence.{MeetsOnlyList}
use Rattle.made_laws.specs.MadeProblems.{AreWide}
use Rattle.made_laws.proofs.MadeRoom.{made_roomy}
use Rattle.tptp_grammar.specs.declared.refusal.Refusal.{Refusal as FileRefusal}
use Rattle.tptp_grammar.specs.declared.refusal.Refusal.TheVariants as file
use Rattle.tptp_cnf.specs.Files.{IsFile}
use Rattle.tptp_cnf.specs.Causes.{RefusedAt}
use Rattle.tptp_cnf.proofs.Causal.{one_cause, refused_is_no_file}
use Rattle.szs_print.specs.declared.refusal.Refusal.{Refusal}
use Rattle.szs_print.specs.declared.refusal.Refusal.TheVariants.{Usage, Syntax, Inappropriate, Limit, Length, Read, Memory}
use Rattle.darwin_cli.specs.Outcome.{IsSure, IsFileCause, GaveAll, GaveTooMany, IsAskedFor, IsTextFor, IsFileRefused, IsCause, IsAnswered, status_of}
use Rattle.darwin_cli.specs.Replies.{IsReply}
use Rattle.darwin_cli.specs.declared.answer.TheConstants.{MADE_PREDICATES, MADE_CLAUSES}
use Rattle.make_problem.specs.Made.{IsMade}
use Rattle.darwin_options.specs.declared.options.Options.{Options}

-- ---- what stands in the bytes

-- the status of what the grammar refuses
abbrev refused_with : FileRefusal → ℕ
refused_with file.Syntax = 2
refused_with (file.Inappropriate what) = 3
refused_with (file.Limit which) = 4

-- The grammar refuses the bytes, with this status.
pub record ByGrammar (bytes : List ℕ) (status : ℕ) : Type 0 where
  pub why : FileRefusal
  pub at : ℕ
  pub refused : RefusedAt why at bytes
  pub status_is : status ≡ refused_with why

by_grammar : (bytes : List ℕ) (r : Refusal) → IsFileCause bytes r → ByGrammar bytes (status_of r)
by_grammar bytes Usage cause = absurd cause
by_grammar bytes (Syntax at) cause = record { why = file.Syntax; at = at; refused = cause; status_is = refl }
by_grammar bytes (Inappropriate what at) cause = record { why = file.Inappropriate what; at = at; refused = cause; status_is = refl }
by_grammar bytes (Limit which at) cause = record { why = file.Limit which; at = at; refused = cause; status_is = refl }
by_grammar bytes Length cause = absurd cause
by_grammar bytes Read cause = absurd cause
by_grammar bytes Memory cause = absurd cause

same_by : (bytes : List ℕ) (m n : ℕ) → ByGrammar bytes m → ByGrammar bytes n → m ≡ n
same_by bytes m n p q = p.status_is ∙ (ap refused_with (one_cause bytes p.why q.why p.at q.at p.refused q.refused).0 ∙ sym q.status_is)

-- bytes are refused with one status
same_status : (bytes : List ℕ) (r s : Refusal) → IsFileCause bytes r → IsFileCause bytes s → status_of r ≡ status_of s
same_status bytes r s p q = same_by bytes (status_of r) (status_of s) (by_grammar bytes r p) (by_grammar bytes s q)

-- a file is not refused for what stands in it
not_refused : (bytes : List ℕ) (problem : ProblemValue) (r : Refusal) → IsFile bytes problem → IsFileCause bytes r → ⊥
not_refused bytes problem r means cause =
    let p = by_grammar bytes r cause in
    refused_is_no_file bytes p.why p.at problem p.refused means

-- ---- what is written of them

pub if_ok : {T E : Type 0} (r : Result T E) (P Q : T → Type 0) → ((x : T) → P x → Q x) → IfOk r P → IfOk r Q
if_ok (Ok x) P Q f h = f x h
if_ok (Err e) P Q f h = tt

-- ---- what a source gave

-- what is consumed to the end is all
all_consumed : (old new : Option (List ℕ)) (bytes given : List ℕ) → old ≡ Some bytes → IsAtEnd new → Consumes old new given → given ≡ bytes
all_consumed None new bytes given told end gone = cc
all_consumed (Some xs) None bytes given told end gone = absurd gone
all_consumed (Some xs) (Some ys) bytes given told end gone =
    sym (append-nil given) ∙ ap (λ (zs : List ℕ). given ++ zs) (sym end) ∙ sym gone ∙ same_Some xs bytes told

-- what was given up in whole is consumed
all_given : (old new : Option (List ℕ)) (bytes : List ℕ) (given given' : ℕ) → IfSome old (λ xs. bytes ≡ xs) → IsAtEnd new → GaveFront old new given given' → Consumes old new bytes
all_given None new bytes given given' whole end front = tt
all_given (Some xs) None bytes given given' whole end front = front.gone
all_given (Some xs) (Some ys) bytes given given' whole end front = sym whole ∙ sym (append-nil bytes) ∙ ap (λ (zs : List ℕ). bytes ++ zs) (sym end)

module _ {S : Type 0} (left : S → Option (List ℕ)) (given : S → ℕ) (ended : S → Type 0) (faults : S → ℕ) (options : Options) (old new : S) where
  -- a source that tells its bytes gave up no others
  pub same_bytes : (bytes other : List ℕ) → left old ≡ Some bytes → GaveAll left given ended faults options old new other → other ≡ bytes
  same_bytes bytes other told all = all_consumed (left old) (left new) bytes other told all.none_left all.gone

  -- few bytes are not too many
  not_too_many : (bytes : List ℕ) → left old ≡ Some bytes → length bytes ≤ MAX_BYTES → GaveTooMany left given ended faults options old new → ⊥
  not_too_many bytes told few many =
      let P : Option (List ℕ) → Type 0 = λ o. IfSome o (λ xs. MAX_BYTES < length xs) in
      let long : MAX_BYTES < length bytes = subst P told many.told in
      absurd (omega (arith, few))

  -- a source that tells its bytes is refused for what stands in these
  refused_for : (bytes : List ℕ) (r : Refusal) → left old ≡ Some bytes → IsFileRefused left given ended faults options old new r → IsFileCause bytes r
  refused_for bytes r told cause =
      let P : List ℕ → Type 0 = λ xs. IsFileCause xs r in
      subst P (same_bytes bytes cause.1.0 told cause.1.1) cause.1.2

  -- with bytes that are refused for what stands in them
  pub refused_status : (bytes : List ℕ) (due r : Refusal) → left old ≡ Some bytes → length bytes ≤ MAX_BYTES → IsFileCause bytes due → IsCause left given ended faults options old new r → (status_of r ≡ status_of due) ⊎ (5 ≤ status_of r)
  refused_status bytes due Usage told few is cause = absurd cause
  refused_status bytes due (Syntax at) told few is cause = inl (same_status bytes (Syntax at) due (refused_for bytes (Syntax at) told cause) is)
  refused_status bytes due (Inappropriate what at) told few is cause = inl (same_status bytes (Inappropriate what at) due (refused_for bytes (Inappropriate what at) told cause) is)
  refused_status bytes due (Limit which at) told few is cause = inl (same_status bytes (Limit which at) due (refused_for bytes (Limit which at) told cause) is)
  refused_status bytes due Length told few is cause = absurd (not_too_many bytes told few cause.1)
  refused_status bytes due Read told few is cause = inr (omega arith)
  refused_status bytes due Memory told few is cause = inr (omega arith)

  -- with a file whose problem is solved
  pub file_status : (bytes : List ℕ) (problem : ProblemValue) (r : Refusal) → left old ≡ Some bytes → length bytes ≤ MAX_BYTES → IsFile bytes problem → IsCause left given ended faults options old new r → (status_of r ≡ 0) ⊎ (5 ≤ status_of r)
  file_status bytes problem Usage told few means cause = absurd cause
  file_status bytes problem (Syntax at) told few means cause = absurd (not_refused bytes problem (Syntax at) means (refused_for bytes (Syntax at) told cause))
  file_status bytes problem (Inappropriate what at) told few means cause = absurd (not_refused bytes problem (Inappropriate what at) means (refused_for bytes (Inappropriate what at) told cause))
  file_status bytes problem (Limit which at) told few means cause = absurd (not_refused bytes problem (Limit which at) means (refused_for bytes (Limit which at) told cause))
  file_status bytes problem Length told few means cause = absurd (not_too_many bytes told few cause.1)
  file_status bytes problem Read told few means cause = inr (omega arith)
  file_status bytes problem Memory told few means cause = inr (omega arith)

  -- with such a file, and no fault
  pub complete_status : (bytes : List ℕ) (problem : ProblemValue) (r : Refusal) → left old ≡ Some bytes → length bytes ≤ MAX_BYTES → IsFile bytes problem → (Rose (faults old) (faults new) → ⊥) → IsCause left given ended faults options old new r → (status_of r ≡ 0) ⊎ (status_of r ≡ 7)
  complete_status bytes problem Usage told few means quiet cause = absurd cause
  complete_status bytes problem (Syntax at) told few means quiet cause = absurd (not_refused bytes problem (Syntax at) means (refused_for bytes (Syntax at) told cause))
  complete_status bytes problem (Inappropriate what at) told few means quiet cause = absurd (not_refused bytes problem (Inappropriate what at) means (refused_for bytes (Inappropriate what at) told cause))
  complete_status bytes problem (Limit which at) told few means quiet cause = absurd (not_refused bytes problem (Limit which at) means (refused_for bytes (Limit which at) told cause))
  complete_status bytes problem Length told few means quiet cause = absurd (not_too_many bytes told few cause.1)
  complete_status bytes problem Read told few means quiet cause = absurd (quiet cause.1)
  complete_status bytes problem Memory told few means quiet cause = inr refl

  -- without a seed, the problem that is asked for is a file's
  asked_of_file : (problem : ProblemValue) → options.make ≡ None → IsAskedFor left given ended faults options old new options.make problem → (bytes : List ℕ) × GaveAll left given ended faults options old new bytes × IsFile bytes problem
  asked_of_file problem unmade asked =
      let P : Option ℕ → Type 0 = λ make. IsAskedFor left given ended faults options old new make problem in
      subst P unmade asked

  -- an answer was given, so the bytes are not refused for what stands in them
  pub answered_is_not_refused : (bytes text : List ℕ) (due : Refusal) → options.make ≡ None → left old ≡ Some bytes → IsAnswered left given ended faults options old new text → IsFileCause bytes due → ⊥
  answered_is_not_refused bytes text due unmade told answered is =
      let asked = asked_of_file answered.problem unmade answered.asked in
      let P : List ℕ → Type 0 = λ xs. IsFile xs answered.problem in
      not_refused bytes answered.problem due (subst P (same_bytes bytes asked.0 told asked.1) asked.2) is

  -- a source that was read to its end gave up all its bytes
  pub read_gave_all : (bytes : List ℕ) → IfSome (left old) (λ xs. bytes ≡ xs) → IsAtEnd (left new) → GaveFront (left old) (left new) (given old) (given new) → given new ≡ given old + length bytes → ended new → length bytes ≤ MAX_BYTES → GaveAll left given ended faults options old new bytes
  read_gave_all bytes whole end front counted at_end few =
      record { gone = all_given (left old) (left new) bytes (given old) (given new) whole end front; counted = counted; end = at_end; none_left = end; few = few }

  of_file : (bytes : List ℕ) (r : Refusal) → options.make ≡ None → GaveAll left given ended faults options old new bytes → IsFileCause bytes r → IsCause left given ended faults options old new r
  of_file bytes Usage unmade all cause = absurd cause
  of_file bytes (Syntax at) unmade all cause = (unmade, (bytes, all, cause))
  of_file bytes (Inappropriate what at) unmade all cause = (unmade, (bytes, all, cause))
  of_file bytes (Limit which at) unmade all cause = (unmade, (bytes, all, cause))
  of_file bytes Length unmade all cause = absurd cause
  of_file bytes Read unmade all cause = absurd cause
  of_file bytes Memory unmade all cause = absurd cause

  solved_cause : (bytes : List ℕ) (r : Refusal) → options.make ≡ None → GaveAll left given ended faults options old new bytes → (r ≡ Memory) ⊎ IsFileCause bytes r → IsCause left given ended faults options old new r
  solved_cause bytes r unmade all (inl e) =
      let P : Refusal → Type 0 = λ x. IsCause left given ended faults options old new x in
      subst P (sym e) tt
  solved_cause bytes r unmade all (inr cause) = of_file bytes r unmade all cause

  -- what refuses bytes that were read to their end has its cause
  pub cause_of_solved : {T : Type 0} (bytes : List ℕ) (result : Result T Refusal) → options.make ≡ None → GaveAll left given ended faults options old new bytes → IfErr result (λ r. (r ≡ Memory) ⊎ IsFileCause bytes r) → IfErr result (IsCause left given ended faults options old new)
  cause_of_solved bytes (Ok text) unmade all either = tt
  cause_of_solved bytes (Err r) unmade all either = solved_cause bytes r unmade all either

  -- the problem that the bytes mean is the one that is asked for
  pub asked_of_bytes : (bytes : List ℕ) (problem : ProblemValue) → options.make ≡ None → GaveAll left given ended faults options old new bytes → IsFile bytes problem → IsAskedFor left given ended faults options old new options.make problem
  asked_of_bytes bytes problem unmade all means =
      let P : Option ℕ → Type 0 = λ make. IsAskedFor left given ended faults options old new make problem in
      subst P (sym unmade) (bytes, all, means)

  -- the problem that is made of the seed is the one that is asked for
  pub asked_of_seed : (seed : ℕ) (problem : ProblemValue) → options.make ≡ Some seed → new ≡ old → IsMade seed MADE_PREDICATES MADE_CLAUSES problem → IsAskedFor left given ended faults options old new options.make problem
  asked_of_seed seed problem seeded same made =
      let P : Option ℕ → Type 0 = λ make. IsAskedFor left given ended faults options old new make problem in
      subst P (sym seeded) (same, made)

  -- a made problem within wide bounds is decided
  made_decided : (make : Option ℕ) (problem : ProblemValue) (reply : AnswerValue) → IsAskedFor left given ended faults options old new make problem → IsSure problem options.bounds options.from reply → IsSome make → AreWide MADE_PREDICATES options.bounds → MeetsOnlyList reply
  made_decided None problem reply asked sure some wide = cc some
  made_decided (Some seed) problem reply asked sure some wide =
      sure.function_free (made_roomy.function_free seed MADE_PREDICATES MADE_CLAUSES problem asked.1)
      (made_roomy.roomy seed MADE_PREDICATES MADE_CLAUSES problem options.bounds some_predicates asked.1 wide)
    where
      some_predicates : 1 ≤ 30
      some_predicates = omega arith

  -- the text of the reply to the problem that is asked for
  pub answered_by : (problem : ProblemValue) (text : List ℕ) → IsAskedFor left given ended faults options old new options.make problem → IsReply options problem text → IsAnswered left given ended faults options old new text
  answered_by problem text asked reply = record {
    problem = problem;
    answer = reply.0;
    asked = asked;
    sure = reply.1;
    text_is = reply.2;
    decided = made_decided options.make problem (answer_value reply.0) asked reply.1;
  }

  -- want of memory has its cause
  pub cause_of_memory : {T : Type 0} (result : Result T Refusal) → IfErr result (λ r. r ≡ Memory) → IfErr result (IsCause left given ended faults options old new)
  cause_of_memory (Ok text) h = tt
  cause_of_memory (Err r) h =
      let P : Refusal → Type 0 = λ x. IsCause left given ended faults options old new x in
      subst P (sym h) tt
