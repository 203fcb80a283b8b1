-- A model that is shown is a context, and its interpretation makes every clause true.
use Rattle.std.proofs.Common.{◌≡◌, ℕ, zero, suc, ◌<◌, List, [], ◌∷◌, map, slice_get, Option, None, Some, refl, sym, ap, subst, ◌∙◌, arith}
use Rattle.std.proofs.lemmas.Option.{same_Some, slice_get-map}
use Rattle.std.specs.Option.{option_map}
use Rattle.me_terms.specs.Values.{ProblemValue, EntryValue}
use Rattle.me_terms.specs.Context.{StandsAt, IsContext, IsLiteralEntry}
use Rattle.me_terms.specs.Grown.{sign_of}
use Rattle.me_terms.specs.InducedModel.{IsModel}
use Rattle.me_terms.specs.declared.bounds.Start.{Start}
use Rattle.me_laws.proofs.Model.{model}
use Rattle.me_laws.proofs.UnifiersExist.{unifiers_exist}
use Rattle.szs_read.specs.declared.claim.EntryLine.{EntryLine}
use Rattle.answer_check.specs.Judgements.{AreRightEntries, IsShownModel, context_of, entry_of}

-- the line of an entry
pub line_at : (lines : List EntryLine) (k : ℕ) (e : EntryValue) → slice_get (map entry_of lines) k ≡ Some e → (line : EntryLine) × (slice_get lines k ≡ Some line) × (entry_of line ≡ e)
line_at lines k e at = by_line (slice_get lines k) refl (sym (slice_get-map entry_of lines k) ∙ at)
  where
    by_line : (o : Option EntryLine) → slice_get lines k ≡ o → option_map entry_of o ≡ Some e → (line : EntryLine) × (slice_get lines k ≡ Some line) × (entry_of line ≡ e)
    by_line None there h = cc h
    by_line (Some line) there h = (line, there, same_Some (entry_of line) e h)

pub right_is_context : (start : Start) (lines : List EntryLine) → AreRightEntries start lines → IsContext (context_of start lines)
right_is_context start lines right = record { first = (sign_of start, refl); later = later }
  where
    later : (k : ℕ) (e : EntryValue) → 0 < k → StandsAt (context_of start lines) k e → IsLiteralEntry e
    later zero e lt at = absurd (omega arith)
    later (suc k) e lt at =
        let found = line_at lines k e at in
        let ok = right k found.0 found.1 in
        subst IsLiteralEntry found.2 (ok.canonical, ok.ground)

pub shown_model : (problem : ProblemValue) (start : Start) (lines : List EntryLine) → IsShownModel problem start lines → IsContext (context_of start lines) × IsModel problem (context_of start lines)
shown_model problem start lines shown =
    let whole = right_is_context start lines shown.entries in
    (whole, model unifiers_exist problem (context_of start lines) whole shown.none_productive)
