-- Which statuses come where a refusal is told.
use Rattle.std.proofs.Common.{◌≡◌, ◌⊎◌, inl, inr, ℕ, List, refl, sym, subst}
use Rattle.std.specs.Global.{Global}
use Rattle.std.specs.declared.string.String.{String}
use Rattle.szs_print.specs.declared.refusal.Refusal.{Refusal}
use Rattle.darwin_options.specs.AcceptedWords.{AreAccepted}
use Rattle.darwin_options.specs.declared.error.WordsError.{WordsError}
use Rattle.darwin_options.specs.declared.error.WordsError.TheVariants as error
use Rattle.darwin_cli.specs.Calls.{IsWordsCause, words_told_as}
use Rattle.darwin_cli.specs.Outcome.{status_of}

-- The status is that of the refusal, or 6.
abbrev pub IsToldBy : Refusal → ℕ → Type 0
IsToldBy r status = (status ≡ 6) ⊎ (status ≡ status_of r)

-- what holds of 6 and of the refusal's status holds of the status
pub told : (P : ℕ → Type 0) (r : Refusal) (status : ℕ) → IsToldBy r status → (status ≡ 6 → P 6) → P (status_of r) → P status
told P r status (inl e) six own = subst P (sym e) (six e)
told P r status (inr e) six own = subst P (sym e) own

-- but for 6 the status is the refusal's
pub own_status : (r : Refusal) (status : ℕ) → IsToldBy r status → (status ≡ 6 → ⊥) → status ≡ status_of r
own_status r status (inl e) other = absurd (other e)
own_status r status (inr e) other = e

module _ (words : List (String Global)) where
  -- an error of the words has its cause
  pub words_cause : (e : WordsError) → (e ≡ error.Usage → ¬ AreAccepted words) → IsWordsCause words (words_told_as e)
  words_cause error.Usage cause = cause refl
  words_cause error.Memory cause = tt
