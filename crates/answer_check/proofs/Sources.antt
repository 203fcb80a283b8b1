-- What a source gave, and the causes of a refusal of what it gave.
use Rattle.std.proofs.Common.{◌≡◌, ◌⊎◌, inl, inr, ℕ, ◌+◌, ◌≤◌, List, ◌++◌, length, Option, Some, None, Result, Ok, Err, sym, ap, subst, ◌∙◌}
use Rattle.std.proofs.lemmas.List.{append-nil}
use Rattle.std.specs.Prelude.{IfOk, IfErr, IfSome}
use Rattle.std.specs.Io.KnownBytes.{Consumes, IsAtEnd}
use Rattle.me_io.specs.Source.{GaveFront}
use Rattle.me_io.specs.declared.source.TheConstants.{MAX_BYTES}
use Rattle.szs_print.specs.declared.refusal.Refusal.{Refusal}
use Rattle.szs_print.specs.declared.refusal.Refusal.TheVariants.{Usage, Syntax, Inappropriate, Limit, Length, Read, Memory}
use Rattle.answer_check.specs.Checks.{GaveAll, IsCause, IsInputCause}

pub if_ok : {T E : Type 0} (r : Result T E) (P Q : T → Type 0) → ((x : T) → P x → Q x) → IfOk r P → IfOk r Q
if_ok (Ok x) P Q f h = f x h
if_ok (Err e) P Q f h = tt

-- what was given up in whole is consumed
all_given : (old new : Option (List ℕ)) (bytes : List ℕ) (given given' : ℕ) → IfSome old (λ xs. bytes ≡ xs) → IsAtEnd new → GaveFront old new given given' → Consumes old new bytes
all_given None new bytes given given' whole end front = tt
all_given (Some xs) None bytes given given' whole end front = front.gone
all_given (Some xs) (Some ys) bytes given given' whole end front = sym whole ∙ sym (append-nil bytes) ∙ ap (λ (zs : List ℕ). bytes ++ zs) (sym end)

module _ {S : Type 0} (left : S → Option (List ℕ)) (given : S → ℕ) (ended : S → Type 0) (faults : S → ℕ) (old new : S) where
  -- a source that was read to its end gave up all its bytes
  pub read_gave_all : (bytes : List ℕ) → IfSome (left old) (λ xs. bytes ≡ xs) → IsAtEnd (left new) → GaveFront (left old) (left new) (given old) (given new) → given new ≡ given old + length bytes → ended new → length bytes ≤ MAX_BYTES → GaveAll left given ended old new bytes
  read_gave_all bytes whole end front counted at_end few =
      record { gone = all_given (left old) (left new) bytes (given old) (given new) whole end front; counted = counted; end = at_end; none_left = end; few = few }

  of_input : (bytes : List ℕ) (r : Refusal) → GaveAll left given ended old new bytes → IsInputCause bytes r → IsCause left given ended faults old new r
  of_input bytes Usage all cause = absurd cause
  of_input bytes (Syntax at) all cause = (bytes, all, cause)
  of_input bytes (Inappropriate what at) all cause = (bytes, all, cause)
  of_input bytes (Limit which at) all cause = (bytes, all, cause)
  of_input bytes Length all cause = absurd cause
  of_input bytes Read all cause = absurd cause
  of_input bytes Memory all cause = absurd cause

  has_cause : (bytes : List ℕ) (r : Refusal) → GaveAll left given ended old new bytes → (r ≡ Memory) ⊎ IsInputCause bytes r → IsCause left given ended faults old new r
  has_cause bytes r all (inl e) = subst (λ (x : Refusal). IsCause left given ended faults old new x) (sym e) tt
  has_cause bytes r all (inr cause) = of_input bytes r all cause

  -- what refuses bytes that were read to their end has its cause
  pub cause_of_input : {T : Type 0} (bytes : List ℕ) (result : Result T Refusal) → GaveAll left given ended old new bytes → IfErr result (λ r. (r ≡ Memory) ⊎ IsInputCause bytes r) → IfErr result (IsCause left given ended faults old new)
  cause_of_input bytes (Ok text) all either = tt
  cause_of_input bytes (Err r) all either = has_cause bytes r all either
