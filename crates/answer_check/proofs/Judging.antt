-- What is said of a claim, as what is said of the bytes in which it was read, and of the input in which they stand.
use Rattle.std.proofs.Common.{◌≡◌, ◌⊎◌, inl, inr, ℕ, List, length, Result, Ok, Err, refl, sym, ap, subst, ◌∙◌}
use Rattle.std.specs.Prelude.{IfOk}
use Rattle.me_terms.specs.Validity.{IsValid}
use Rattle.me_terms.specs.Values.{ProblemValue, SignatureValue}
use Rattle.szs_print.specs.declared.refusal.Refusal.{Refusal}
use Rattle.szs_print.specs.declared.refusal.Refusal.TheVariants as refusal
use Rattle.szs_read.specs.Answers.{IsAnswer}
use Rattle.szs_read.specs.Longer.{IsLonger}
use Rattle.szs_read.specs.declared.claim.Claim.{Claim}
use Rattle.szs_read.specs.declared.claim.Claim.TheVariants.{Refuted, Model as ModelClaim, Open as OpenClaim}
use Rattle.tptp_cnf.specs.Causes.{IsErrorCause}
use Rattle.tptp_cnf.specs.declared.error.CnfError.{CnfError}
use Rattle.tptp_cnf.specs.declared.error.CnfError.TheVariants.{Syntax, Inappropriate, Limit, Memory}
use Rattle.answer_check.specs.Checks.{IsInputCause, told_as}
use Rattle.answer_check.specs.Instances.{IsGrown}
use Rattle.answer_check.specs.Judgements.{IsClaimJudged, IsJudged}
use Rattle.answer_check.specs.Marks.{problem_bytes}
use Rattle.answer_check.specs.declared.verdict.Verdict.{Verdict}
use Rattle.answer_check.specs.declared.verdict.Verdict.TheVariants.{Refutation, Model, WrongLine, Satisfied, Unifier, Unread, Open}

-- ---- a claim that was read

pub grown_by : (own grown : ProblemValue) (functions before : ℕ) → IsValid own → grown.clauses ≡ own.clauses → IsLonger own.signature grown.signature before 0 → functions ≡ length own.signature.functions → IsGrown own grown functions
grown_by own grown functions before valid same longer count = record { valid = valid; clauses = same; first = longer.functions; own_functions = count }

not_unread : (problem : ProblemValue) (claim : Claim) (line : ℕ) → ¬ IsClaimJudged problem claim (Unread line)
not_unread problem (Refuted lines) line h = h
not_unread problem (ModelClaim start lines) line h = h
not_unread problem (OpenClaim bound) line h = cc h

module _ (problem : ProblemValue) (bytes : List ℕ) (signature : SignatureValue) (claim : Claim) (answer : IsAnswer problem.signature bytes signature claim) where
  judged_of : (verdict : Verdict) → IsClaimJudged problem claim verdict → IsJudged problem bytes signature verdict
  judged_of Refutation h = record { claim = claim; answer = answer; judged = h }
  judged_of Model h = record { claim = claim; answer = answer; judged = h }
  judged_of (WrongLine line) h = record { claim = claim; answer = answer; judged = h }
  judged_of (Satisfied trues) h = record { claim = claim; answer = answer; judged = h }
  judged_of (Unifier number) h = record { claim = claim; answer = answer; judged = h }
  judged_of (Unread line) h = absurd (not_unread problem claim line h)
  judged_of Open h = record { claim = claim; answer = answer; judged = h }

  pub judged_so : {E : Type 0} (result : Result Verdict E) → IfOk result (λ verdict. IsClaimJudged problem claim verdict) → IfOk result (IsJudged problem bytes signature)
  judged_so (Ok verdict) h = judged_of verdict h
  judged_so (Err e) h = tt

-- ---- a problem that was not read

cause_told : (input bytes : List ℕ) → bytes ≡ problem_bytes input → (error : CnfError) → IsErrorCause bytes error → (told_as error ≡ refusal.Memory) ⊎ IsInputCause input (told_as error)
cause_told input bytes same (Syntax at) h = inr (subst (λ (z : List ℕ). IsErrorCause z (Syntax at)) same h)
cause_told input bytes same (Inappropriate what at) h = inr (subst (λ (z : List ℕ). IsErrorCause z (Inappropriate what at)) same h)
cause_told input bytes same (Limit which at) h = inr (subst (λ (z : List ℕ). IsErrorCause z (Limit which at)) same h)
cause_told input bytes same Memory h = inl refl

pub refused_for : (input bytes : List ℕ) (error : CnfError) (told : Refusal) → bytes ≡ problem_bytes input → told ≡ told_as error → IsErrorCause bytes error → (told ≡ refusal.Memory) ⊎ IsInputCause input told
refused_for input bytes error told same is h =
    subst (λ (z : Refusal). (z ≡ refusal.Memory) ⊎ IsInputCause input z) (sym is) (cause_told input bytes same error h)
