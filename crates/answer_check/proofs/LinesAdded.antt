-- The lines of a model, as they are entered one after another.
use Rattle.std.proofs.Common.{◌≡◌, ◌⊎◌, inl, inr, ℕ, suc, ◌+◌, ◌<◌, ◌≤◌, List, [], ◌∷◌, ◌++◌, length, map, take, slice_get, Option, None, Some, refl, sym, ap, subst, ◌∙◌, append_assoc, arith}
use Rattle.std.proofs.Math.Seq.{take-append_seam}
use Rattle.std.proofs.lemmas.List.{append-nil, length-append, length-map, map-append, take-append-le}
use Rattle.std.proofs.lemmas.Option.{slice_get_within}
use Rattle.me_terms.specs.Context.{Context, add}
use Rattle.me_terms.specs.declared.bounds.Start.{Start}
use Rattle.me_terms.specs.declared.bounds.TheConstants.{MAX_ENTRIES}
use Rattle.entry_hiding.proofs.Marks.{push_end, push_cases}
use Rattle.szs_read.specs.Claims.{Rises}
use Rattle.szs_read.specs.declared.claim.EntryLine.{EntryLine}
use Rattle.answer_check.specs.Entries.{AreBelow}
use Rattle.answer_check.specs.Judgements.{AreRightEntries, IsRightEntry, IsWrongEntry, context_of, entry_of}

-- Some lines are right and the context is theirs; the rest stand behind them and are few enough for a context.
pub record EnteredSoFar (start : Start) (lines : List EntryLine) (context : Context) (rest : List EntryLine) : Type 0 where
  pub done : List EntryLine
  pub last : ℕ
  pub parts : done ++ rest ≡ lines
  pub right : AreRightEntries start done
  pub is : context ≡ context_of start done
  pub behind : length done ≤ last
  pub rises : Rises last rest
  pub few : AreBelow rest

pub none_by : {A : Type 0} (o : Option A) → ((x : A) → o ≡ Some x → ⊥) → o ≡ None
none_by None h = refl
none_by (Some x) h = absurd (h x refl)

pub nothing_left : (lines : List EntryLine) → length lines ≡ 0 → lines ≡ []
nothing_left [] h = refl
nothing_left (line ∷ lines) h = absurd (omega (arith, h))

pub entered_next : (start : Start) (lines : List EntryLine) (context : Context) (left : List EntryLine) (line : EntryLine) (rest : List EntryLine) → left ≡ line ∷ rest → EnteredSoFar start lines context left → EnteredSoFar start lines context (line ∷ rest)
entered_next start lines context left line rest e h = subst (EnteredSoFar start lines context) e h

pub none_entered : (start : Start) (lines : List EntryLine) (context : Context) (rest : List EntryLine) → context ≡ context_of start [] → rest ≡ lines → Rises 0 lines → AreBelow lines → EnteredSoFar start lines context rest
none_entered start lines context rest begun all rises few = record {
  done = [];
  last = 0;
  parts = all;
  right = λ k line at. cc at;
  is = begun;
  behind = omega arith;
  rises = subst (Rises 0) (sym all) rises;
  few = subst AreBelow (sym all) few;
}

push_right : (start : Start) (done : List EntryLine) (line : EntryLine) → AreRightEntries start done → IsRightEntry (context_of start done) line → AreRightEntries start (done ++ line ∷ [])
push_right start done line right ok k other at =
    elim (push_cases done line k other at) as (λ _. IsRightEntry (context_of start (take k (done ++ line ∷ []))) other) [
      | inl old ↦
          let within = slice_get_within done k other old in
          let front : take k (done ++ line ∷ []) ≡ take k done = take-append-le k done (line ∷ []) (omega arith) in
          subst (λ (z : List EntryLine). IsRightEntry (context_of start z) other) (sym front) (right k other old)
      | inr new ↦
          let front : take k (done ++ line ∷ []) ≡ done = ap (λ n. take n (done ++ line ∷ [])) new.0 ∙ take-append_seam done (line ∷ []) in
          subst (λ (z : List EntryLine). IsRightEntry (context_of start z) other) (sym front) (subst (λ (z : EntryLine). IsRightEntry (context_of start done) z) new.1 ok)
    ]

context_push : (start : Start) (done : List EntryLine) (line : EntryLine) → context_of start (done ++ line ∷ []) ≡ add (context_of start done) (entry_of line)
context_push start done line = ap (context_with start) (map-append entry_of done (line ∷ []))
  where
    context_with : Start → Context → Context
    context_with s entries = context_of s [] ++ entries

module _ (start : Start) (lines : List EntryLine) (context : Context) (line : EntryLine) (rest : List EntryLine) (so_far : EnteredSoFar start lines context (line ∷ rest)) where
  pub has_room : length context < MAX_ENTRIES
  has_room =
      let size : length context ≡ suc (length so_far.done) = ap length so_far.is ∙ ap suc (length-map so_far.done entry_of) in
      let first = so_far.rises.0 in
      let few = so_far.few.0 in
      let behind : length so_far.done ≤ so_far.last = so_far.behind in
      omega (arith, size, first, few, behind)

  pub one_entered : (new : Context) → IsRightEntry context line → new ≡ add context (entry_of line) → EnteredSoFar start lines new rest
  one_entered new ok added = record {
    done = so_far.done ++ line ∷ [];
    last = line.at;
    parts = append_assoc so_far.done (line ∷ []) rest ∙ so_far.parts;
    right = push_right start so_far.done line so_far.right (subst (λ (z : Context). IsRightEntry z line) so_far.is ok);
    is = added ∙ (ap (λ (z : Context). add z (entry_of line)) so_far.is ∙ sym (context_push start so_far.done line));
    behind = omega (arith, length-append so_far.done (line ∷ []), so_far.behind, so_far.rises.0);
    rises = so_far.rises.1;
    few = so_far.few.1;
  }

  pub wrong_entered : (at : ℕ) → ¬ IsRightEntry context line → at ≡ line.at → IsWrongEntry start lines at
  wrong_entered at wrong at_is =
      let front : take (length so_far.done) lines ≡ so_far.done = ap (take (length so_far.done)) (sym so_far.parts) ∙ take-append_seam so_far.done (line ∷ rest) in
      record {
        before = length so_far.done;
        line = line;
        at_is = at_is;
        stands = ap (λ (z : List EntryLine). slice_get z (length so_far.done)) (sym so_far.parts) ∙ there so_far.done;
        right_before = subst (AreRightEntries start) (sym front) so_far.right;
        wrong = λ h. wrong (subst (λ (z : Context). IsRightEntry z line) (sym so_far.is) (subst (λ (z : List EntryLine). IsRightEntry (context_of start z) line) front h));
      }
    where
      there : (done : List EntryLine) → slice_get (done ++ line ∷ rest) (length done) ≡ Some line
      there [] = refl
      there (l ∷ done) = there done

pub all_entered : (start : Start) (lines : List EntryLine) (context : Context) (rest : List EntryLine) → rest ≡ [] → EnteredSoFar start lines context rest → AreRightEntries start lines × (context ≡ context_of start lines)
all_entered start lines context rest none so_far =
    let whole : so_far.done ≡ lines = sym (append-nil so_far.done) ∙ (ap (λ (z : List EntryLine). so_far.done ++ z) (sym none) ∙ so_far.parts) in
    (subst (AreRightEntries start) whole so_far.right, so_far.is ∙ ap (context_of start) whole)
